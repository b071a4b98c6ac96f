-- Expiry (Abeni and Buttazzo 1998; sched-deadline.rst 2.1): the replenishment timer is armed for deadline - relative deadline +
-- period. It counts another clock than the deadline: the law is that the two clocks were read at one moment, between the line that
-- throttled the task and the line that armed the timer, to a microsecond. Moments of lines are cut to microseconds.
use Rattle.std.specs.Prelude.{ℕ, ◌+◌, ◌-◌, ◌%◌, ◌^◌, ◌≤◌}
use Rattle.law_findings.specs.declared.expiry.Expiry.{Expiry}

-- u64, which wraps at 2 ^ 64
abbrev pub less : ℕ → ℕ → ℕ
less a b = (a + (2 ^ 64 - b)) % 2 ^ 64

-- the begin of the next period
abbrev pub begin_of : Expiry → ℕ
begin_of e = (less e.deadline e.dl_deadline + e.dl_period) % 2 ^ 64

-- when the runqueue's clock showed `clock`, if the timer is armed for that begin
abbrev pub moment_of : Expiry → ℕ
moment_of e = less e.armed_for (less (begin_of e) e.clock)

pub record IsNextPeriod (e : Expiry) : Type 0 where
  pub behind : e.from ≤ moment_of e + 1000
  pub before : moment_of e ≤ e.to + 2000
