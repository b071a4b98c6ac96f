use Rattle.library_book.proofs.Beginning.{IsBook-opened}
use Rattle.library_book.proofs.opening.open_book.Goals as goal

pub returns-then-fault-eq-DONE-clause-book : goal.returns-then-fault-eq-DONE-clause-book
returns-then-fault-eq-DONE-clause-book c =
    λ done. IsBook-opened _ _ _ _ (c.setup_fault-fault.ensures.none.0 done) c.open_tasks.ensures.records c.open_tasks.ensures.states c.open_queues.ensures.constants c.open_queues.ensures.zero
