-- What a view of a played time line comes to.
use Rattle.std.specs.Prelude.{⊤, ℕ, List, Option}
use Rattle.std.specs.Io.KnownBytes.{Appends}
use Rattle.grub_book.specs.declared.event.Reading.{Reading}
use Rattle.grub_run.specs.Written.{AppendsPrefix}
use Rattle.grub_timeline.specs.TimeLines.{IsTimeLine}
use Rattle.grub_timeline.specs.declared.told.ToldEntry.{ToldEntry}
use Rattle.grub_plan.specs.Plans.{PlanView}
use Rattle.grub_run.specs.ViewFaults.{IsEmptySpan}
use Rattle.grub_run.specs.Shown.{IsViewOf}
use Rattle.grub_run.specs.declared.show_fault.ShowFault.{ShowFault}
use Rattle.grub_run.specs.declared.show_fault.ShowFault.TheVariants as faults
use Rattle.grub_run.specs.declared.view.FileView.{FileView}

-- a view of these entries was written, and nothing else
abbrev pub WritesView : FileView → PlanView → List ToldEntry → List Reading → Option (List ℕ) → Option (List ℕ) → Type 0
WritesView view plan told closing old new = (text : List ℕ) × IsViewOf view plan told closing text × Appends old new text

-- a beginning of one was written
abbrev pub BeginsView : FileView → PlanView → List ToldEntry → List Reading → Option (List ℕ) → Option (List ℕ) → Type 0
BeginsView view plan told closing old new = (text : List ℕ) × IsViewOf view plan told closing text × AppendsPrefix old new text

-- a view of the time line of the plan was written, and nothing else
pub record WritesLine (view : FileView) (plan : PlanView) (old new : Option (List ℕ)) : Type 0 where
  pub told : List ToldEntry
  pub closing : List Reading
  pub line : IsTimeLine plan told closing
  pub written : WritesView view plan told closing old new

-- a beginning of one was written
pub record BeginsLine (view : FileView) (plan : PlanView) (old new : Option (List ℕ)) : Type 0 where
  pub told : List ToldEntry
  pub closing : List Reading
  pub line : IsTimeLine plan told closing
  pub begun : BeginsView view plan told closing old new

-- a picture of the time line of the plan would go from this moment to this one, which is not after it
pub record HasEmptyLine (view : FileView) (plan : PlanView) (first end : ℕ) : Type 0 where
  pub told : List ToldEntry
  pub closing : List Reading
  pub line : IsTimeLine plan told closing
  pub empty : IsEmptySpan view told first end

-- no fault of a file; an empty span is that of a time line of the plan
abbrev pub IsFaultOfLine : FileView → PlanView → ShowFault → Type 0
IsFaultOfLine view plan (faults.Trace fault) = ⊥
IsFaultOfLine view plan (faults.EmptySpan first end) = HasEmptyLine view plan first end
IsFaultOfLine view plan fault = ⊤
