-- The server (Lipari and Baruah 2000): the deadline of a fair server is at most a period and a runtime ahead.
use Rattle.std.specs.Prelude.{ℕ, ℤ, pos, Bool, Option, Some, None, ◌≡◌, ◌+◌, ◌*◌, ◌/◌, ◌<◌, ◌≤◌, ◌-◌, ◌-ℤ◌, ◌≤ℤ◌, if◌then◌else◌}
use Rattle.std.specs.Int.{int_max, int_min}
use Rattle.law_findings.specs.declared.server.ServerStart.{ServerStart}

abbrev pub IsNear : ℕ → ℕ → ℕ → ℕ → Type 0
IsNear deadline clock runtime period = deadline ≤ clock + period + runtime

-- what a charge leaves: its span is taken in full
abbrev pub taken_of : ℤ → ℤ → ℤ
taken_of before nanos = before -ℤ nanos

-- idle time takes a budget down to 0 at most, and leaves one below 0 as it is
abbrev pub left_by : Bool → ℤ → ℤ → ℤ
left_by is_idle before nanos =
    if is_idle then int_max (taken_of before nanos) (int_min before (pos 0)) else taken_of before nanos

-- The revised wake-up rule (Abeni, Lipari and Lelli 2015): a start under the same deadline may lower a budget to the server's share of
-- the time up to the deadline, with 20 bits behind the point.
abbrev pub share_until : ℕ → ServerStart → ℕ
share_until deadline s = s.dl_runtime * 1048576 / s.dl_period * (deadline - s.clock) / 1048576

-- a start lowers what a charge has left to the server's share, and raises it never
abbrev pub IsLowered : Option ServerStart → ℕ → ℤ → ℤ → Type 0
IsLowered None deadline left after = ⊥
IsLowered (Some s) deadline left after = (0 < s.dl_period) × (after ≤ℤ left) × (after ≡ pos (share_until deadline s))
