use Rattle.std.proofs.Common.{◌≡◌, ◌++◌, drop}
use Rattle.size_report.specs.Periods.{between_after}
use Rattle.size_report.proofs.figures.intervals_after.Given as goal

abbrev pub invariant-loop-job : goal.invariant-loop-job
invariant-loop-job l = l.between.items ++ between_after l.last (drop l.job-index l.jobs) ≡ between_after l.first l.jobs
