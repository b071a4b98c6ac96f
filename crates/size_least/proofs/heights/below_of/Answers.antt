use Rattle.std.proofs.Common.{rules}
use Rattle.size_least.specs.Span.{budgets_of}
use Rattle.size_least.proofs.heights.below_of.Goals as goal

pub returns-clause-value : goal.returns-clause-value
unfolding budgets_of
returns-clause-value c = search rules
