use Rattle.std.proofs.Common.{[]}
use Rattle.size_least.proofs.Curve.{need-iff, late-needs}
use Rattle.size_least.proofs.needs.needs_are_the_curve_of_late_jobs.Goals as goal

pub returns-clause-need : goal.returns-clause-need
returns-clause-need c = need-iff

pub returns-clause-curve : goal.returns-clause-curve
returns-clause-curve c = λ period runtime jobs some room all. late-needs period runtime [] jobs some room tt all
