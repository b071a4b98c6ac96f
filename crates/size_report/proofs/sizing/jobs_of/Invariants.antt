use Rattle.std.proofs.Common.{take}
use Rattle.size_report.specs.Answers.{AreJobs}
use Rattle.size_report.proofs.sizing.jobs_of.Given as goal

abbrev pub invariant-loop-one : goal.invariant-loop-one
invariant-loop-one l = AreJobs l.within (take l.one-index l.seen) l.jobs.items
