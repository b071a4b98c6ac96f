-- What is told of a task: each number is that of its jobs.
use Rattle.std.specs.Prelude.{◌≡◌, ◌↔◌, ◌<◌, ℕ, ◌+◌, ◌*◌, min, max, All, List, Option, IfSome, IsNone}
use Rattle.std.specs.Int.{div_ceil}
use Rattle.size_least.specs.Jobs.{late_of}
use Rattle.size_least.specs.Least.{IsLeast}
use Rattle.size_least.specs.declared.job.Job.{Job}
use Rattle.size_report.specs.declared.sizing.Choice.{Choice}
use Rattle.size_report.specs.declared.sizing.Needed.{Needed}
use Rattle.size_report.specs.declared.sizing.SizeRequest.{SizeRequest}

-- so many percent more than the least, rounded up, at least 2 as the kernel wants it, within the period
abbrev pub proposed_of : ℕ → ℕ → ℕ → ℕ
proposed_of least margin period = min (max (div_ceil (least * (100 + margin)) 100) 2) period

-- fifteen percent less, rounded up
abbrev pub less_of : ℕ → ℕ
less_of least = div_ceil (least * 85) 100

-- so many of the jobs may be late with a runtime
abbrev pub IsCounted : List Job → ℕ → Choice → Type 0
IsCounted jobs period choice = choice.late ≡ late_of choice.runtime period jobs

-- the least runtime in a period; none where no runtime is enough
abbrev pub IsPriced : List Job → ℕ → ℕ × Option ℕ → Type 0
IsPriced jobs allowed price =
    IfSome price.1 (IsLeast jobs price.0 allowed) × (IsNone price.1 ↔ (allowed < late_of price.0 price.0 jobs))

-- the least runtime with which at most so many jobs may be late, what is proposed, and what other runtimes and periods cost
pub record IsNeeded (jobs : List Job) (wanted : SizeRequest) (needed : Needed) : Type 0 where
  pub least : IsLeast jobs wanted.period wanted.allowed needed.least
  pub proposed : needed.proposed ≡ proposed_of needed.least wanted.margin wanted.period
  pub less : needed.less ≡ less_of needed.least
  pub choices : All (IsCounted jobs wanted.period) needed.choices.items
  pub others : All (IsPriced jobs wanted.allowed) needed.others.items
