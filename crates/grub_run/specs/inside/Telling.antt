-- What the program's own functions say of one file's fault, and of a run's.
use Rattle.std.specs.Prelude.{◌≡◌, ⊤, ℕ, List, [], slice_index_or}
use Rattle.std.specs.Borrow.{Bor}
use Rattle.grub_trace.specs.declared.fault.TraceFault.TheVariants as trace
use Rattle.grub_run.specs.declared.grub_fault.GrubFault.{GrubFault}
use Rattle.grub_run.specs.declared.grub_fault.GrubFault.TheVariants as run
use Rattle.text_bytes.specs.declared.files.Source.{Source}
use Rattle.text_bytes.specs.Source.{IsLonger, IsOpened, IsUnreadable, Opener, Reader}
use Rattle.grub_run.specs.declared.program_fault.ProgramFault.{ProgramFault}
use Rattle.grub_run.specs.declared.program_fault.ProgramFault.TheVariants as faults

-- a run's fault, as the program tells it: one of a file's line with the file's name
abbrev pub IsPlaced : List (List ℕ) → GrubFault → ProgramFault → Type 0
IsPlaced names (run.Trace (trace.At k f n)) r = (path : Bor (List ℕ)) × (r ≡ faults.Line path n (run.Trace (trace.At k f n))) × (path.now ≡ slice_index_or names f [])
IsPlaced names fault r = r ≡ faults.Run fault

-- a fault that comes while files are read
abbrev pub IsOfReading : ProgramFault → Type 0
IsOfReading (faults.Run fault) = ⊥
IsOfReading faults.View = ⊥
IsOfReading (faults.EmptySpan first end) = ⊥
IsOfReading fault = ⊤

module _ {O N D : Type 0} (o : Opener O D) (g : Reader N D) (source : Source O N) where
  -- what a fault tells of the one file of this name
  abbrev pub TellsOf : List ℕ → ProgramFault → Type 0
  TellsOf name (faults.TooLong path) = (path.now ≡ name) × IsLonger o g source name
  TellsOf name (faults.Unreadable path) = (path.now ≡ name) × IsUnreadable o g source name
  TellsOf name (faults.Line path line fault) = ⊥
  TellsOf name (faults.Run fault) = ⊥
  TellsOf name faults.View = ⊥
  TellsOf name (faults.EmptySpan first end) = ⊥
  TellsOf name faults.NoMemory = IsOpened o g source name
