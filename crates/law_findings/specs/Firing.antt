-- Firing (Lipari and Baruah 2000; sched-deadline.rst 2.2): no timer fires before its expiry; the 0-lag timer fires of a task that
-- sleeps; what is armed fires. Moments are nanoseconds, and those of lines are cut to microseconds.
use Rattle.std.specs.Prelude.{ℕ, ◌+◌, ◌≤◌}

abbrev pub IsEarly : ℕ → ℕ → Type 0
IsEarly expiry fired = fired + 1000 ≤ expiry

-- a wake cancels the timer; one that has just expired may still wait for the runqueue's lock
pub record IsAwakeLong (woke expiry fired : ℕ) : Type 0 where
  pub before_firing : woke + 100000 ≤ fired
  pub before_expiry : woke + 100000 ≤ expiry

-- it is missed after 10 ms
abbrev pub IsDue : ℕ → ℕ → Type 0
IsDue expiry now = expiry + 10000000 ≤ now
