-- From names to numbers, and the plan of trees.
use Rattle.grub_book.specs.Bandwidth.{Capacity}
use Rattle.grub_plan.specs.Plans.{Line, PlanView}
use Rattle.std.specs.Prelude.{ℕ, ◌+◌, List, [], ◌∷◌, map, Option, Some, None, if◌then◌else◌, option_map}
use Rattle.std.specs.List.{filter_map, flat_map}
use Rattle.std.specs.Str.{bytes_eq}
use Rattle.grub_plan.specs.declared.line.Act.{Act}
use Rattle.grub_plan.specs.declared.line.Act.TheVariants as act
use Rattle.grub_trace.specs.Tree.{Declaration, Happening, Tree, names_of}

-- ---- names to numbers

-- the number of the task with this name, where one was declared
abbrev pub task_of : List (List ℕ) → List ℕ → Option ℕ
task_of [] name = None
task_of (n ∷ names) name = if bytes_eq n name then Some 0 else option_map (λ i. i + 1) (task_of names name)

abbrev pub act_in : List (List ℕ) → Act (List ℕ) ℕ → Option (Act ℕ ℕ)
act_in names (act.Join n) = option_map act.Join (task_of names n)
act_in names (act.Wake n) = option_map act.Wake (task_of names n)
act_in names (act.Block n) = option_map act.Block (task_of names n)
act_in names (act.Leave n) = option_map act.Leave (task_of names n)
act_in names (act.Exit n) = option_map act.Exit (task_of names n)
act_in names (act.Run n d) = option_map (λ t. act.Run t d) (task_of names n)
act_in names (act.Retune n q p) = option_map (λ t. act.Retune t q p) (task_of names n)
act_in names act.Read = Some act.Read

abbrev pub line_in : List (List ℕ) → Happening → Option Line
line_in names h = option_map (λ a. record { m = h.m; act = a }) (act_in names h.act)

-- ---- the plan of trees

-- the script of a tree, where these names are declared
abbrev pub script_of : List (List ℕ) → Tree → List Line
script_of names t = filter_map (line_in names) t.happenings

abbrev pub all_tasks : List Tree → List Declaration
all_tasks ts = flat_map (λ t. t.tasks) ts

-- the plan of these parts
abbrev pub plan_with : List Capacity → List Declaration → List (List Line) → PlanView
plan_with queues tasks scripts = record { setup = record { queues = queues; tasks = map (λ d. d.params) tasks }; names = names_of tasks; scripts = scripts }

abbrev pub plan_of : List Tree → PlanView
plan_of ts = plan_with (map (λ t. t.queue) ts) (all_tasks ts) (map (script_of (names_of (all_tasks ts))) ts)
