use Rattle.std.proofs.Common.{◌≡◌, ◌++◌, ◌-◌, List, [], drop}
use Rattle.size_least.specs.Jobs.{lates_after}
use Rattle.size_least.specs.inside.Walk.{Answers, IsKept}
use Rattle.size_least.specs.declared.job.Job.{Job}
use Rattle.size_least.proofs.late.lates_of.Given as goal

abbrev pub invariant-loop-job : goal.invariant-loop-job
invariant-loop-job l =
    (past : List Job) × IsKept (l.period - l.runtime) l.runtime l.renewals × Answers l.runtime l.period l.renewals past
    × (l.lates.items ++ lates_after l.runtime l.period past (drop l.job-index l.jobs) ≡ lates_after l.runtime l.period [] l.jobs)
