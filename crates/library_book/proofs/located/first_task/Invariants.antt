use Rattle.library_book.specs.Opening.{task_fault}
use Rattle.library_book.proofs.Locating.{NoneBefore}
use Rattle.library_book.proofs.located.first_task.Given as goal

abbrev pub invariant-loop-t : goal.invariant-loop-t
invariant-loop-t l = NoneBefore task_fault l.tasks l.t
