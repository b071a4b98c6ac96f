use Rattle.library_book.proofs.Beginning.{capacities_kept}
use Rattle.library_book.proofs.opening.open_queues.Goals as goal

pub returns-clause-constants : goal.returns-clause-constants
returns-clause-constants c = capacities_kept _ _ c.loop-i.auto.queues c.loop-i.invariant.constants
