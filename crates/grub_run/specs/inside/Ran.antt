-- What a run of a plan comes to.
use Rattle.std.specs.Prelude.{◌≡◌, ◌≤◌, ⊤, ℕ, List, Option, length}
use Rattle.std.specs.Io.KnownBytes.{Appends}
use Rattle.grub_book.specs.declared.event.Reading.{Reading}
use Rattle.grub_plan.specs.Plans.{PlanView}
use Rattle.grub_plan.specs.declared.entry.Report.{Report}
use Rattle.grub_workers.specs.Apart.{AreOwn}
use Rattle.grub_workers.specs.Runs.{IsOnlyRun, IsRun}
use Rattle.grub_run.specs.Written.{AppendsPrefix, texts_from}
use Rattle.grub_run.specs.declared.grub_fault.GrubFault.{GrubFault}
use Rattle.grub_run.specs.declared.grub_fault.GrubFault.TheVariants as faults

-- what a run of the plan reported, and where it is the only outcome
pub record IsRunText (plan : PlanView) (tries : ℕ) (text : List ℕ) : Type 0 where
  pub reports : List Report
  pub closing : List Reading
  pub run : IsRun plan tries reports closing
  pub same : length plan.scripts ≡ 1 → 1 ≤ tries → IsOnlyRun plan reports closing
  pub apart : 1 ≤ tries → AreOwn plan reports closing
  pub whole : text ≡ texts_from plan.names 0 reports closing

-- the text of a run of the plan was written, and nothing else
abbrev pub WritesRun : PlanView → ℕ → Option (List ℕ) → Option (List ℕ) → Type 0
WritesRun plan tries old new = (text : List ℕ) × IsRunText plan tries text × Appends old new text

-- a beginning of one was written
abbrev pub BeginsRun : PlanView → ℕ → Option (List ℕ) → Option (List ℕ) → Type 0
BeginsRun plan tries old new = (text : List ℕ) × IsRunText plan tries text × AppendsPrefix old new text

-- no fault of the files
abbrev pub IsFaultOfRun : GrubFault → Type 0
IsFaultOfRun (faults.Trace fault) = ⊥
IsFaultOfRun fault = ⊤
