-- What each fault of a view tells of its files.
use Rattle.std.specs.Prelude.{◌≡◌, ◌≤◌, ⊤, ℕ, List}
use Rattle.grub_book.specs.declared.event.Reading.{Reading}
use Rattle.grub_timeline.specs.TimeLines.{IsTimeLine}
use Rattle.grub_timeline.specs.declared.told.ToldEntry.{ToldEntry}
use Rattle.grub_trace.specs.FirstFault.{IsOnly, IsTraceFault}
use Rattle.grub_trace.specs.Meaning.{Reads}
use Rattle.grub_trace.specs.Naming.{plan_of}
use Rattle.grub_trace.specs.Tree.{Tree}
use Rattle.grub_trace.specs.declared.fault.Kind.{Kind}
use Rattle.grub_trace.specs.declared.fault.TraceFault.TheVariants as trace
use Rattle.grub_run.specs.Shown.{end_of, first_of}
use Rattle.grub_run.specs.declared.show_fault.ShowFault.{ShowFault}
use Rattle.grub_run.specs.declared.show_fault.ShowFault.TheVariants as faults
use Rattle.grub_run.specs.declared.view.FileView.{FileView}
use Rattle.grub_run.specs.declared.view.FileView.TheVariants.{Picture}

-- a picture of these entries would go from this moment to this one, which is not after it
abbrev pub IsEmptySpan : FileView → List ToldEntry → ℕ → ℕ → Type 0
IsEmptySpan (Picture from to) told first end = (first ≡ first_of from) × (end ≡ end_of to told) × (end ≤ first)
IsEmptySpan view told first end = ⊥

-- and that is so of the time line of these files
pub record HasEmptySpan (view : FileView) (files : List (List ℕ)) (first end : ℕ) : Type 0 where
  pub trees : List Tree
  pub read : Reads files trees
  pub told : List ToldEntry
  pub closing : List Reading
  pub line : IsTimeLine (plan_of trees) told closing
  pub empty : IsEmptySpan view told first end

-- a fault of the files is the one that their reader answers, and an empty span is that of a picture of their time line
abbrev pub IsFaultOfView : FileView → List (List ℕ) → ShowFault → Type 0
IsFaultOfView view files (faults.Trace fault) = IsTraceFault files fault
IsFaultOfView view files (faults.EmptySpan first end) = HasEmptySpan view files first end
IsFaultOfView view files fault = ⊤

-- this fault of a file and no other, unless memory was refused to the reader
abbrev pub IsOnlyFaultOfFile : ShowFault → Kind → ℕ → ℕ → Type 0
IsOnlyFaultOfFile (faults.Trace fault) k f n = IsOnly fault k f n
IsOnlyFaultOfFile fault k f n = ⊥

-- no fault of a file
abbrev pub IsNoFaultOfFile : ShowFault → Type 0
IsNoFaultOfFile (faults.Trace fault) = fault ≡ trace.NoMemory
IsNoFaultOfFile fault = ⊤
