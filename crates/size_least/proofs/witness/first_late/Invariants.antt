use Rattle.std.proofs.Common.{◌≡◌, ◌++◌, ◌-◌, List, [], drop, replicate}
use Rattle.size_least.specs.Jobs.{late_after, late_of, lates_after}
use Rattle.size_least.specs.inside.Walk.{Answers, IsKept}
use Rattle.size_least.specs.declared.job.Job.{Job}
use Rattle.size_least.proofs.witness.first_late.Given as goal

abbrev pub invariant-loop-i : goal.invariant-loop-i
invariant-loop-i l =
    (past : List Job) × IsKept (l.period - l.runtime) l.runtime l.renewals × Answers l.runtime l.period l.renewals past
    × (late_after l.runtime l.period past (drop l.i l.jobs) ≡ late_of l.runtime l.period l.jobs)
    × (replicate l.i 0 ++ lates_after l.runtime l.period past (drop l.i l.jobs) ≡ lates_after l.runtime l.period [] l.jobs)
