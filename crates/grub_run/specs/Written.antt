-- The text that a run writes, and what a writer took of it.
use Rattle.std.specs.Prelude.{◌≡◌, ◌≤◌, ℕ, ◌+◌, ◌++◌, List, [], ◌∷◌, length, take, ⊤, Option}
use Rattle.std.specs.Io.KnownBytes.{Appends}
use Rattle.grub_book.specs.declared.event.Reading.{Reading}
use Rattle.grub_trace.specs.Meaning.{Reads}
use Rattle.grub_trace.specs.FirstFault.{IsTraceFault, IsOnly}
use Rattle.grub_trace.specs.Naming.{plan_of}
use Rattle.grub_trace.specs.Tree.{Tree}
use Rattle.grub_plan.specs.Texts.{report_text}
use Rattle.grub_plan.specs.declared.entry.Report.{Report}
use Rattle.grub_trace.specs.declared.fault.Kind.{Kind}
use Rattle.grub_trace.specs.declared.fault.TraceFault.TheVariants as trace
use Rattle.grub_workers.specs.Apart.{AllApart}
use Rattle.grub_workers.specs.Runs.{IsRun}
use Rattle.grub_run.specs.declared.grub_fault.GrubFault.{GrubFault}
use Rattle.grub_run.specs.declared.grub_fault.GrubFault.TheVariants as faults

-- the texts of these reports, the first of which is of runqueue r and the next of r + 1
abbrev pub texts_from : List (List ℕ) → ℕ → List Report → List Reading → List ℕ
texts_from names r [] closing = []
texts_from names r (x ∷ reports) [] = []
texts_from names r (x ∷ reports) (c ∷ closing) = report_text names r x.entries.items c ++ texts_from names (r + 1) reports closing

-- the text is that of the reports of a run of these files, in file order
pub record IsText (tries : ℕ) (files : List (List ℕ)) (text : List ℕ) : Type 0 where
  pub trees : List Tree
  pub read : Reads files trees
  pub reports : List Report
  pub closing : List Reading
  pub run : IsRun (plan_of trees) tries reports closing
  pub whole : text ≡ texts_from (plan_of trees).names 0 reports closing

-- no other text than this is that of a run of the files, with however many tries, but one at least
abbrev pub IsOnlyText : List (List ℕ) → List ℕ → Type 0
IsOnlyText files text = (tries : ℕ) (other : List ℕ) → 1 ≤ tries → IsText tries files other → other ≡ text

-- no two of the files name one task
abbrev pub ShareNoTask : List (List ℕ) → Type 0
ShareNoTask files = (trees : List Tree) → Reads files trees → AllApart (plan_of trees)

-- the text of a run, which is a function of the files where they share no task, as with one file alone
pub record IsOutput (tries : ℕ) (files : List (List ℕ)) (text : List ℕ) : Type 0 where
  pub is : IsText tries files text
  pub only : length files ≡ 1 → 1 ≤ tries → IsOnlyText files text
  pub apart : ShareNoTask files → 1 ≤ tries → IsOnlyText files text

-- known bytes grow by a beginning of the text
abbrev pub AppendsPrefix : Option (List ℕ) → Option (List ℕ) → List ℕ → Type 0
AppendsPrefix old new text = (k : ℕ) × Appends old new (take k text)

-- what was written is a text of these files of which this is said, and nothing else
abbrev pub Writes : (List (List ℕ) → List ℕ → Type 0) → Option (List ℕ) → Option (List ℕ) → List (List ℕ) → Type 0
Writes P old new files = (text : List ℕ) × P files text × Appends old new text

-- what was written is a beginning of such a text
abbrev pub Begins : (List (List ℕ) → List ℕ → Type 0) → Option (List ℕ) → Option (List ℕ) → List (List ℕ) → Type 0
Begins P old new files = (text : List ℕ) × P files text × AppendsPrefix old new text

-- a fault of the files is the one that their reader answers
abbrev pub IsFaultOf : List (List ℕ) → GrubFault → Type 0
IsFaultOf files (faults.Trace fault) = IsTraceFault files fault
IsFaultOf files fault = ⊤

-- this fault of a file and no other, unless memory was refused to the reader
abbrev pub IsOnlyFault : GrubFault → Kind → ℕ → ℕ → Type 0
IsOnlyFault (faults.Trace fault) k f n = IsOnly fault k f n
IsOnlyFault fault k f n = ⊥

-- no fault of a file
abbrev pub IsNoFileFault : GrubFault → Type 0
IsNoFileFault (faults.Trace fault) = fault ≡ trace.NoMemory
IsNoFileFault fault = ⊤
