use Rattle.std.proofs.Common.{◌≡◌, map, take}
use Rattle.library_book.specs.Memory.{params_of}
use Rattle.neddwyrol_table.proofs.opening.tasks_of.Given as goal

abbrev pub invariant-loop-task : goal.invariant-loop-task
invariant-loop-task l = record { items : l.found.items ≡ map params_of (take l.task-index l.tasks) }
