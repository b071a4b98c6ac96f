use Rattle.library_book.specs.Memory.{records_of}
use Rattle.library_book.proofs.Stepping.{of_same}
use Rattle.library_book.proofs.steps.asked.Goals as goal

pub returns-in-Charge-clause-step : goal.returns-in-Charge-clause-step
returns-in-Charge-clause-step c = λ s book. of_same s (records_of c.args.tasks.now) _ c.args.t _ _ _ c.in-Charge.is (c.charged.ensures.step s book)

pub returns-in-Block-clause-step : goal.returns-in-Block-clause-step
returns-in-Block-clause-step c = λ s book. of_same s (records_of c.args.tasks.now) _ c.args.t _ _ _ c.in-Block.is (c.blocked.ensures.step s book)

pub returns-in-Timer-clause-step : goal.returns-in-Timer-clause-step
returns-in-Timer-clause-step c = λ s book. of_same s (records_of c.args.tasks.now) _ c.args.t _ _ _ c.in-Timer.is (c.stepped.ensures.step s book)

pub returns-in-Wake-clause-step : goal.returns-in-Wake-clause-step
returns-in-Wake-clause-step c = λ s book. of_same s (records_of c.args.tasks.now) _ c.args.t _ _ _ c.in-Wake.is (c.stepped-in-Wake.ensures.step s book)

pub returns-in-Join-clause-step : goal.returns-in-Join-clause-step
returns-in-Join-clause-step c = λ s book. of_same s (records_of c.args.tasks.now) _ c.args.t _ _ _ c.in-Join.is (c.joined.ensures.step s book)

pub returns-in-Leave-clause-step : goal.returns-in-Leave-clause-step
returns-in-Leave-clause-step c = λ s book. of_same s (records_of c.args.tasks.now) _ c.args.t _ _ _ c.in-Leave.is (c.left.ensures.step s book)
