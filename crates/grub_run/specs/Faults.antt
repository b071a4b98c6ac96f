-- What the program's faults tell of its files, and the status of each.
use Rattle.std.specs.Prelude.{◌≡◌, ⊤, ℕ, List, [], map, take, slice_get, slice_index_or, Some}
use Rattle.std.specs.Borrow.{Bor}
use Rattle.std.specs.List.{AllZip}
use Rattle.grub_trace.specs.declared.fault.Kind.{Kind}
use Rattle.grub_trace.specs.declared.fault.TraceFault.TheVariants as trace
use Rattle.grub_trace.specs.FirstFault.{IsFault}
use Rattle.grub_run.specs.Written.{IsNoFileFault}
use Rattle.grub_run.specs.declared.grub_fault.GrubFault.{GrubFault}
use Rattle.grub_run.specs.declared.grub_fault.GrubFault.TheVariants as run
use Rattle.grub_run.specs.ViewFaults.{HasEmptySpan}
use Rattle.grub_run.specs.declared.view.FileView.{FileView}
use Rattle.text_bytes.specs.declared.files.Source.{Source}
use Rattle.text_bytes.specs.Source.{Holds, IsLonger, IsOpened, IsUnreadable, Opener, Reader}
use Rattle.grub_run.specs.declared.program_fault.ProgramFault.{ProgramFault}
use Rattle.grub_run.specs.declared.program_fault.ProgramFault.TheVariants as faults

-- 1 where a file is at fault, 2 where the command line is, and 3 where the system is
abbrev pub status_of : ProgramFault → ℕ
status_of (faults.TooLong path) = 1
status_of (faults.Line path line fault) = 1
status_of (faults.EmptySpan first end) = 2
status_of (faults.Unreadable path) = 3
status_of (faults.Run fault) = 3
status_of faults.View = 3
status_of faults.NoMemory = 3

-- the texts behind these references
abbrev pub names_of : List (Bor (List ℕ)) → List (List ℕ)
names_of paths = map (λ path. path.now) paths

-- this is the fault of the lines of the files: in this line of the file of this name
pub record IsFaultInLine (names : List (List ℕ)) (name : List ℕ) (line : ℕ) (fault : GrubFault) (files : List (List ℕ)) : Type 0 where
  pub kind : Kind
  pub file : ℕ
  pub is : IsFault files kind file line
  pub told : fault ≡ run.Trace (trace.At kind file line)
  pub named : name ≡ slice_index_or names file []

-- a picture of the time line of these files would not begin before it ends
abbrev pub HasNoSpan : FileView → List (List ℕ) → Type 0
HasNoSpan view files = (first end : ℕ) × HasEmptySpan view files first end

module _ {O N D : Type 0} (o : Opener O D) (g : Reader N D) (source : Source O N) where
  -- the files of these names may be read as these bytes
  abbrev pub HoldAll : List (List ℕ) → List (List ℕ) → Type 0
  HoldAll names files = AllZip (Holds o g source) names files

  -- this is said of a file, and those before it may be read whole
  pub record First (P : List ℕ → Type 0) (names : List (List ℕ)) (name : List ℕ) : Type 0 where
    pub at : ℕ
    pub is : slice_get names at ≡ Some name
    pub before : List (List ℕ)
    pub hold : HoldAll (take at names) before
    pub says : P name

  -- all files may be read whole, and this is said of what they may be read as
  pub record Whole (P : List (List ℕ) → Type 0) (names : List (List ℕ)) : Type 0 where
    pub files : List (List ℕ)
    pub hold : HoldAll names files
    pub says : P files

  -- what a fault tells of the files of these names
  abbrev pub Tells : List (List ℕ) → ProgramFault → Type 0
  Tells names (faults.TooLong path) = First (IsLonger o g source) names path.now
  Tells names (faults.Unreadable path) = First (IsUnreadable o g source) names path.now
  Tells names (faults.Line path line fault) = Whole (IsFaultInLine names path.now line fault) names
  Tells names (faults.Run fault) = IsNoFileFault fault
  Tells names faults.View = ⊥
  Tells names (faults.EmptySpan first end) = ⊥
  Tells names faults.NoMemory = (name : List ℕ) × First (IsOpened o g source) names name

  -- and what one of a view of their time line tells
  abbrev pub TellsOfView : FileView → List (List ℕ) → ProgramFault → Type 0
  TellsOfView view names (faults.EmptySpan first end) = Whole (λ files. HasEmptySpan view files first end) names
  TellsOfView view names faults.View = ⊤
  TellsOfView view names fault = Tells names fault

  -- one of these files may be at fault
  abbrev pub HasFileFault : List (List ℕ) → Type 0
  HasFileFault names = (fault : ProgramFault) × (status_of fault ≡ 1) × Tells names fault
