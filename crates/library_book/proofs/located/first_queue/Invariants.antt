use Rattle.library_book.specs.Opening.{queue_fault}
use Rattle.library_book.proofs.Locating.{NoneBefore}
use Rattle.library_book.proofs.located.first_queue.Given as goal

abbrev pub invariant-loop-r : goal.invariant-loop-r
invariant-loop-r l = NoneBefore queue_fault l.queues l.r
