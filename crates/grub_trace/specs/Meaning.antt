-- What event files mean: the trees whose texts they are.
use Rattle.std.specs.Prelude.{◌≡◌, ℕ, ◌≤◌, ◌<◌, true, List, [], ◌∷◌, ◌++◌, length, map, None, IsSome}
use Rattle.std.specs.List.{AllByRecursion}
use Rattle.grub_book.specs.declared.setup.TheConstants.{QUEUES_MAX, TASKS_MAX}
use Rattle.grub_book.specs.Bandwidth.{IsReservation, IsCapacity}
use Rattle.grub_trace.specs.declared.version.Version.{Version}
use Rattle.grub_plan.specs.declared.line.Act.{Act}
use Rattle.grub_plan.specs.declared.line.Act.TheVariants.{Join, Wake, Block, Leave, Exit, Run, Retune, Read}
use Rattle.grub_plan.specs.Names.{is_name}
use Rattle.grub_trace.specs.Tree.{Declaration, Happening, may_retune, Tree, text, is_span, is_moment, names_of}
use Rattle.grub_trace.specs.Naming.{task_of, line_in, all_tasks}

-- what may be said in a file of this version
abbrev pub IsAct : Version → Act (List ℕ) ℕ → Type 0
IsAct version (Run n s) = (is_name n ≡ true) × (is_span s ≡ true)
IsAct version (Retune n q p) = (is_name n ≡ true) × IsReservation (record { runtime = q; period = p }) × (may_retune version ≡ true)
IsAct version (Join n) = is_name n ≡ true
IsAct version (Wake n) = is_name n ≡ true
IsAct version (Block n) = is_name n ≡ true
IsAct version (Leave n) = is_name n ≡ true
IsAct version (Exit n) = is_name n ≡ true
IsAct version Read = Unit {0}

-- a happening that may stand after a moment, in a file of this version
pub record IsHappeningFrom (version : Version) (low : ℕ) (h : Happening) : Type 0 where
  pub after : low ≤ h.m
  pub within : is_moment h.m ≡ true
  pub act : IsAct version h.act

-- no moment is before low, or before the one in front of it
abbrev pub GoOn : Version → ℕ → List Happening → Type 0
GoOn version low [] = Unit {0}
GoOn version low (h ∷ hs) = IsHappeningFrom version low h × GoOn version h.m hs

-- a declaration that may stand after these names: none stands twice, and there are not too many
pub record IsDeclaration (names : List (List ℕ)) (d : Declaration) : Type 0 where
  pub name : is_name d.name ≡ true
  pub fits : IsReservation d.params
  pub few : length names < TASKS_MAX
  pub fresh : task_of names d.name ≡ None

-- each may stand after these names, and those that are declared before it
abbrev pub AreDeclared : List (List ℕ) → List Declaration → Type 0
AreDeclared names [] = Unit {0}
AreDeclared names (d ∷ ds) = IsDeclaration names d × AreDeclared (names ++ d.name ∷ []) ds

-- a tree that may stand after these names
pub record IsTree (names : List (List ℕ)) (t : Tree) : Type 0 where
  pub queue : IsCapacity t.queue
  pub tasks : AreDeclared names t.tasks
  pub happenings : GoOn t.version 0 t.happenings

-- trees that may stand one after the other, after these names
abbrev pub AreTrees : List (List ℕ) → List Tree → Type 0
AreTrees names [] = Unit {0}
AreTrees names (t ∷ ts) = IsTree names t × AreTrees (names ++ names_of t.tasks) ts

-- each task that is named is declared
abbrev pub AreKnown : List (List ℕ) → List Happening → Type 0
AreKnown names hs = AllByRecursion (λ h. IsSome (line_in names h)) hs

-- the files read as these trees
pub record Reads (files : List (List ℕ)) (trees : List Tree) : Type 0 where
  pub some : 1 ≤ length files
  pub few : length files ≤ QUEUES_MAX
  pub texts : files ≡ map text trees
  pub together : AreTrees [] trees
  pub known : AllByRecursion (λ t. AreKnown (names_of (all_tasks trees)) t.happenings) trees
