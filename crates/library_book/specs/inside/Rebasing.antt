-- A task of a book whose origin was moved.
use Rattle.std.specs.Prelude.{ℕ, ◌-◌}
use Rattle.grub_book.specs.Rebase.{forgotten}
use Rattle.library_book.specs.Memory.{record_of}
use Rattle.library_book.specs.declared.memory.NdTask.{NdTask}

-- as `rebased` of its record
abbrev pub task_rebased : ℕ → NdTask → NdTask
task_rebased by x = record x { deadline = x.deadline - by; count = x.count - forgotten (record_of x) }
