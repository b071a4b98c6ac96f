-- Which fault of event files is answered: the first one.
use Rattle.std.specs.Prelude.{◌≡◌, ℕ, ◌≤◌, ◌<◌, List, [], ◌∷◌, ◌++◌, length, map, take, slice_get, is_none, Option, Some, ◌==◌, ◌+◌, ◌⊎◌, if◌then◌else◌}
use Rattle.std.specs.List.{AllByRecursion, position_from}
use Rattle.grub_book.specs.declared.setup.TheConstants.{QUEUES_MAX}
use Rattle.grub_trace.specs.declared.version.Version.{Version}
use Rattle.grub_trace.specs.declared.fault.Kind.{Kind}
use Rattle.grub_trace.specs.declared.fault.Kind.TheVariants.{BadHeader, MissingQueue, CutShort, UnknownTask, OutOfRange}
use Rattle.grub_trace.specs.declared.fault.TraceFault.{TraceFault}
use Rattle.grub_trace.specs.declared.fault.TraceFault.TheVariants as trace
use Rattle.grub_trace.specs.Tree.{header, Tree, text, names_of}
use Rattle.text_bytes.specs.Lines.{parts_of}
use Rattle.grub_trace.specs.Faults.{line_fault, header_fault, queue_fault}
use Rattle.grub_trace.specs.Naming.{line_in, all_tasks}
use Rattle.grub_trace.specs.Meaning.{AreKnown, AreTrees, IsTree}

-- ---- the first fault of a file

-- what is wrong with the line in front, given what is wrong where there is none, and with a whole line
abbrev pub front_fault : Kind → (List ℕ → Option Kind) → List (List ℕ) → Option Kind
front_fault missing fault [] = Some missing
front_fault missing fault (last ∷ []) = Some (if length last == 0 then missing else CutShort)
front_fault missing fault (line ∷ next ∷ more) = fault line

-- the first line may not stand there
abbrev pub HeaderFault : List ℕ → Kind → ℕ → Type 0
HeaderFault bytes k n = (n ≡ 1) × (front_fault BadHeader header_fault (parts_of bytes) ≡ Some k)

-- the second line may not stand there, after a right first one
pub record QueueFault (bytes : List ℕ) (k : Kind) (n : ℕ) : Type 0 where
  pub version : Version
  pub rest : List ℕ
  pub number : n ≡ 2
  pub front : bytes ≡ header version ++ 10 ∷ rest
  pub fault : front_fault MissingQueue queue_fault (parts_of rest) ≡ Some k

-- the text of a tree, and then a line that may not stand there
pub record LineFault (names : List (List ℕ)) (bytes : List ℕ) (k : Kind) (n : ℕ) : Type 0 where
  pub tree : Tree
  pub rest : List ℕ
  pub is : IsTree names tree
  pub front : bytes ≡ text tree ++ rest
  pub more : 0 < length rest
  pub number : n ≡ 3 + length tree.tasks + length tree.happenings
  pub fault : front_fault CutShort (line_fault tree.version (names ++ names_of tree.tasks) (map (λ h. h.m) tree.happenings)) (parts_of rest) ≡ Some k

-- the first fault of a file, after these names
abbrev pub FileFault : List (List ℕ) → List ℕ → Kind → ℕ → Type 0
FileFault names bytes k n = HeaderFault bytes k n ⊎ QueueFault bytes k n ⊎ LineFault names bytes k n

-- ---- the first fault of all files

-- the files before this one have trees, and it has a fault
pub record FirstFault (names : List (List ℕ)) (files : List (List ℕ)) (k : Kind) (f n : ℕ) : Type 0 where
  pub fronts : List Tree
  pub texts : take f files ≡ map text fronts
  pub together : AreTrees names fronts
  pub bytes : List ℕ
  pub is : slice_get files f ≡ Some bytes
  pub fault : FileFault (names ++ names_of (all_tasks fronts)) bytes k n

-- all files have trees, and this is the first line that names a task that none declares; the line after the declarations is 3 + their number
pub record UnknownFault (files : List (List ℕ)) (f n : ℕ) : Type 0 where
  pub trees : List Tree
  pub texts : files ≡ map text trees
  pub together : AreTrees [] trees
  pub tree : Tree
  pub is : slice_get trees f ≡ Some tree
  pub before : AllByRecursion (λ t. AreKnown (names_of (all_tasks trees)) t.happenings) (take f trees)
  pub first : position_from (λ h. is_none (line_in (names_of (all_tasks trees)) h)) (3 + length tree.tasks) tree.happenings ≡ Some n

-- the fault that is answered
pub data IsFault (files : List (List ℕ)) : Kind → ℕ → ℕ → Type 0 where
  too_many : QUEUES_MAX < length files → IsFault files OutOfRange QUEUES_MAX 1
  no_file : length files ≡ 0 → IsFault files MissingQueue 0 1
  first : (k : Kind) (f n : ℕ) → 1 ≤ length files → length files ≤ QUEUES_MAX → FirstFault [] files k f n → IsFault files k f n
  unknown : (f n : ℕ) → 1 ≤ length files → length files ≤ QUEUES_MAX → UnknownFault files f n → IsFault files UnknownTask f n

abbrev pub IsTraceFault : List (List ℕ) → TraceFault → Type 0
IsTraceFault files trace.NoMemory = Unit {0}
IsTraceFault files (trace.At k f n) = IsFault files k f n

-- this fault and no other, memory aside
abbrev pub IsOnly : TraceFault → Kind → ℕ → ℕ → Type 0
IsOnly trace.NoMemory k f n = Unit {0}
IsOnly (trace.At j g m) k f n = (j ≡ k) × (g ≡ f) × (m ≡ n)

-- the first or the second line of the first file has this fault; what comes before it takes no memory
pub record OpeningFault (files : List (List ℕ)) (k : Kind) (n : ℕ) : Type 0 where
  pub few : length files ≤ QUEUES_MAX
  pub bytes : List ℕ
  pub is : slice_get files 0 ≡ Some bytes
  pub fault : HeaderFault bytes k n ⊎ QueueFault bytes k n
