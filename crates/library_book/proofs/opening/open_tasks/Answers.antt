use Rattle.std.proofs.Common.{arith}
use Rattle.library_book.proofs.Beginning.{records_opened}
use Rattle.library_book.proofs.opening.open_tasks.Goals as goal

pub returns-clause-records : goal.returns-clause-records
returns-clause-records c = records_opened _ _ c.loop-i.auto.tasks (λ k d here. c.loop-i.invariant.done k d (omega (arith, here, c.loop-i-test.false)))

pub returns-clause-states : goal.returns-clause-states
returns-clause-states c = λ k d here. c.loop-i.invariant.states k d (omega (arith, here, c.loop-i-test.false, c.loop-i.auto.tasks))
