-- The text of a view of the time line of files.
use Rattle.std.specs.Prelude.{◌≡◌, ◌<◌, ◌^◌, ℕ, List, length, Option, max, unwrap_or, ⊤}
use Rattle.grub_book.specs.declared.event.Reading.{Reading}
use Rattle.grub_timeline.specs.TimeLines.{IsTimeLine}
use Rattle.grub_timeline.specs.declared.told.ToldEntry.{ToldEntry}
use Rattle.grub_trace.specs.Meaning.{Reads}
use Rattle.grub_trace.specs.Naming.{plan_of}
use Rattle.grub_plan.specs.Plans.{PlanView}
use Rattle.grub_trace.specs.Tree.{Tree}
use Rattle.grub_views.specs.Lines.{timeline_lines}
use Rattle.grub_picture.specs.Picture.{IsDocument, last_moment}
use Rattle.grub_timeline.specs.Replay.{steps_of}
use Rattle.grub_views.specs.Rows.{step_rows}
use Rattle.grub_run.specs.declared.view.FileView.{FileView}
use Rattle.grub_run.specs.declared.view.FileView.TheVariants.{Timeline, Steps, Summary, Picture}

-- the moment at which a picture begins: 0 where it is not given
abbrev pub first_of : Option ℕ → ℕ
first_of from = unwrap_or from 0

-- and the one at which it ends: that of the last entry where it is not given, and 1 where that is 0
abbrev pub end_of : Option ℕ → List ToldEntry → ℕ
end_of to told = unwrap_or to (max 1 (last_moment told))

-- The text is a view of these entries and closing readings. Of a summary nothing more is told than that it is one text. A picture begins before it ends, and is a document shorter than 4 MiB.
abbrev pub IsViewOf : FileView → PlanView → List ToldEntry → List Reading → List ℕ → Type 0
IsViewOf Timeline plan told closing text = text ≡ timeline_lines plan.names told closing
IsViewOf Steps plan told closing text = text ≡ step_rows plan.names (steps_of plan.setup told)
IsViewOf Summary plan told closing text = ⊤
IsViewOf (Picture from to) plan told closing text = (first_of from < end_of to told) × (length text < 2 ^ 22) × IsDocument text

-- the text is that of a view of the time line of these files
pub record IsShown (view : FileView) (files : List (List ℕ)) (text : List ℕ) : Type 0 where
  pub trees : List Tree
  pub read : Reads files trees
  pub told : List ToldEntry
  pub closing : List Reading
  pub line : IsTimeLine (plan_of trees) told closing
  pub whole : IsViewOf view (plan_of trees) told closing text
