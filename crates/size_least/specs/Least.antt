-- The least runtime with which at most so many jobs are late.
use Rattle.std.specs.Prelude.{ℕ, ◌<◌, ◌≤◌, List}
use Rattle.size_least.specs.Jobs.{late_of}
use Rattle.size_least.specs.declared.job.Job.{Job}

-- with it at most so many jobs of the record are late, and with each that is less more are
pub record IsLeast (jobs : List Job) (period allowed runtime : ℕ) : Type 0 where
  pub some : 1 ≤ runtime
  pub room : runtime ≤ period
  pub enough : late_of runtime period jobs ≤ allowed
  pub less : (r : ℕ) → 1 ≤ r → r < runtime → allowed < late_of r period jobs
