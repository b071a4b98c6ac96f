use Rattle.library_book.specs.Audit.{kept_fault}
use Rattle.library_book.proofs.Locating.{NoneBefore}
use Rattle.library_book.proofs.located.first_record.Given as goal

abbrev pub invariant-loop-t : goal.invariant-loop-t
invariant-loop-t l = NoneBefore (kept_fault l.queues) l.tasks l.t
