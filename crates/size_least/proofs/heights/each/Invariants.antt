use Rattle.std.proofs.Common.{◌≡◌, ◌++◌, drop, map}
use Rattle.size_least.proofs.heights.each.Given as goal

abbrev pub invariant-loop-job : goal.invariant-loop-job
invariant-loop-job l = l.all.items ++ map (λ job. l.n) (drop l.job-index l.jobs) ≡ map (λ job. l.n) l.jobs
