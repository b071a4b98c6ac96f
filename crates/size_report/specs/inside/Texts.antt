-- Words of options, as the code holds them.
use Rattle.std.specs.Prelude.{ℕ, Bool, ◌&&◌, suc, List, [], ◌∷◌, Option, Some, None, is_none, option_map, if◌then◌else◌}
use Rattle.std.specs.Borrow.{Bor}
use Rattle.std.specs.Str.{bytes_eq}
use Rattle.size_report.specs.declared.options.AskedTask.{AskedTask}

-- a text that is pointed to, and a number
abbrev pub named_text : Bor (List ℕ) × ℕ → List ℕ × ℕ
named_text it = (it.0.now, it.1)

abbrev pub is_named : List ℕ → AskedTask → Bool
is_named name task = bytes_eq task.name.now name

abbrev pub is_waiting_task : List ℕ → AskedTask → Bool
is_waiting_task name task = bytes_eq task.name.now name && is_none task.within

-- the place of the first task that waits
abbrev pub first_waiting : List ℕ → List AskedTask → Option ℕ
first_waiting name [] = None
first_waiting name (task ∷ tasks) = if is_waiting_task name task then Some 0 else option_map (λ i. suc i) (first_waiting name tasks)
