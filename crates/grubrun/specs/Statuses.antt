-- What the program's status tells of its words and of what was printed.
use Rattle.std.specs.Prelude.{◌⊎◌, ℕ, List, Option}
use Rattle.std.specs.Io.KnownBytes.{Appends}
use Rattle.text_bytes.specs.declared.files.Source.{Source}
use Rattle.text_bytes.specs.Source.{Opener, Reader}
use Rattle.grub_run.specs.Written.{IsOutput}
use Rattle.grub_run.specs.Shown.{IsShown}
use Rattle.grub_run.specs.Faults as faults
use Rattle.grub_run.specs.Faults.{Whole}
use Rattle.grubrun.specs.declared.texts.TheConstants.{HELP, VERSION}
use Rattle.grubrun.specs.CommandLine.{AsksForHelp, AsksForVersion, TriesNamed, files_named}
use Rattle.grubrun.specs.Views.{Wants}
use Rattle.grubrun.specs.declared.view.Wanted.{Wanted}
use Rattle.grubrun.specs.declared.view.Wanted.TheVariants as wishes

-- the text that the words ask for was printed, and nothing else
abbrev pub PrintsAsked : List (List ℕ) → Option (List ℕ) → Option (List ℕ) → Type 0
PrintsAsked words old new = (AsksForHelp words × Appends old new HELP.now) ⊎ (AsksForVersion words × Appends old new VERSION.now)

-- the text is what is asked for of these files: the reports of a run with so many tries, or a view of their time line
abbrev pub IsWanted : Wanted → ℕ → List (List ℕ) → List ℕ → Type 0
IsWanted wishes.Reports tries files text = IsOutput tries files text
IsWanted (wishes.View view) tries files text = IsShown view files text
IsWanted nothing tries files text = ⊥

-- what is asked for is a picture of these files that would not begin before it ends
abbrev pub HasNoSpan : Wanted → ℕ → List (List ℕ) → Type 0
HasNoSpan (wishes.View view) tries files = faults.HasNoSpan view files
HasNoSpan nothing tries files = ⊥

module _ {O N D : Type 0} (o : Opener O D) (g : Reader N D) (source : Source O N) where
  -- of what these words ask for, and of what the files that they name may be read as, this is said
  pub record AsksFor (P : Wanted → ℕ → List (List ℕ) → Type 0) (words : List (List ℕ)) : Type 0 where
    pub wanted : Wanted
    pub wants : Wants words wanted
    pub tries : ℕ
    pub named : TriesNamed words tries
    pub says : Whole o g source (P wanted tries) (files_named words)
