-- What the words ask to be printed: reports, or a view of the time line.
use Rattle.std.specs.Prelude.{◌≡◌, ◌⊎◌, ℕ, List, [], Option, None, Some, codes, nat_le, unwrap_or, ⊤, if◌then◌else◌}
use Rattle.clap.specs.Words.{Text, fault_of}
use Rattle.grubrun.specs.CommandLine.{MomentNamed, command_line, view_named}
use Rattle.grubrun.specs.declared.view_word.ViewWord.{ViewWord}
use Rattle.grubrun.specs.declared.view_word.ViewWord.TheVariants.{Timeline, Steps, Summary, Picture, Unknown}
use Rattle.grub_run.specs.declared.view.FileView.TheVariants as views
use Rattle.grubrun.specs.declared.view.Wanted.{Wanted}
use Rattle.grubrun.specs.declared.view.Wanted.TheVariants.{Reports, View, NoView, NoPicture, EmptySpan}

-- a picture, unless it is known that it does not begin before it ends
abbrev pub wanted_picture : Option ℕ → Option ℕ → Wanted
wanted_picture from None = View (views.Picture from None)
wanted_picture from (Some end) = if nat_le end (unwrap_or from 0) then EmptySpan (unwrap_or from 0) end else View (views.Picture from (Some end))

-- what is asked for; a span is of a picture alone
abbrev pub wanted_of : Option ViewWord → Option ℕ → Option ℕ → Wanted
wanted_of (Some Picture) from to = wanted_picture from to
wanted_of (Some Unknown) from to = NoView
wanted_of None None None = Reports
wanted_of (Some Timeline) None None = View views.Timeline
wanted_of (Some Steps) None None = View views.Steps
wanted_of (Some Summary) None None = View views.Summary
wanted_of view from to = NoPicture

-- what there is nothing of
abbrev pub IsMistake : Wanted → Type 0
IsMistake NoView = ⊤
IsMistake NoPicture = ⊤
IsMistake (EmptySpan first end) = ⊤
IsMistake wanted = ⊥

-- these words ask for this to be printed
pub record Wants (words : List Text) (wanted : Wanted) : Type 0 where
  pub from : Option ℕ
  pub begins : MomentNamed (codes "from") words from
  pub to : Option ℕ
  pub ends : MomentNamed (codes "to") words to
  pub is : wanted ≡ wanted_of (view_named words) from to

-- the command line does not take these words, or they ask for what there is nothing of
abbrev pub IsRefused : List Text → Type 0
IsRefused words = (fault_of command_line words ≡ [] → ⊥) ⊎ ((wanted : Wanted) × Wants words wanted × IsMistake wanted)
