use Rattle.library_book.specs.Memory.{records_of}
use Rattle.library_book.proofs.Locating.{NoSumBefore}
use Rattle.library_book.proofs.located.first_wrong_sum.Given as goal

abbrev pub invariant-loop-r : goal.invariant-loop-r
invariant-loop-r l = NoSumBefore (records_of l.tasks) l.queues l.r
