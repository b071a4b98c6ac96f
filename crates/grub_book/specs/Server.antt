-- The server of a task, and what moves it: the wake rule and the 0-lag time of sched-deadline.rst, and the recharges of Abeni and Buttazzo 1998.
use Rattle.std.specs.Prelude.{ℕ, ◌+◌, ◌-◌, ◌*◌, ◌/◌, ◌^◌, ◌<◌, ◌≤◌, nat_lt, max, Option, Some, None, if◌then◌else◌}
use Rattle.grub_book.specs.Bandwidth.{Reservation, Capacity}
use Rattle.grub_book.specs.declared.server.Server.{Server}

-- a budget is left, and no more than the runtime
pub record Fits (s : Server) (p : Reservation) : Type 0 where
  pub some : 1 ≤ s.q
  pub most : s.q ≤ p.runtime

-- a server that may stand in a book
pub record IsServer (s : Server) (p : Reservation) : Type 0 where
  pub fits : Fits s p
  pub deadline : s.d < 2 ^ 32

-- a full budget, and no deadline yet
abbrev pub fresh_of : Reservation → Server
fresh_of p = record { q = p.runtime; d = 0 }

-- The wake rule at a moment (sched-deadline.rst, "Main algorithm"). The budget q until the deadline d would be more than the reservation gives
-- where q / (d - m) > runtime / period, which is written here without a quotient or a difference.
abbrev pub woken_of : Server → Reservation → ℕ → Server
woken_of s p m =
    if nat_lt (s.d * p.runtime) (s.q * p.period + m * p.runtime) then record { q = p.runtime; d = m + p.period } else s

-- how long before its deadline the 0-lag time is (sched-deadline.rst, "Bandwidth reclaiming"): rounded down, so that the moment is not early
abbrev pub lag_of : Server → Reservation → ℕ
lag_of s p = s.q * p.period / p.runtime

-- the rate of a charge: what the runqueue's inactive and extra bandwidth leave, and at least the task's own.
-- A difference below 0 counts as 0, which is never more than u.
abbrev pub rate_of : ℕ → Capacity → ℕ → ℕ → ℕ
rate_of u c running this = max u (c.most - (this - running) - c.extra)

-- what a run of dt takes from the budget, rounded down (this project's profile)
abbrev pub charge_of : ℕ → ℕ → Capacity → ℕ → ℕ → ℕ
charge_of dt u c running this = dt * rate_of u c running this / c.most

-- how many recharges leave a budget of q, less dq, above 0
abbrev pub IsEnough : ℕ → ℕ → ℕ → ℕ → Type 0
IsEnough q dq runtime k = dq < q + k * runtime

-- the least such count, for 1 ≤ q ≤ runtime
abbrev pub recharges_of : Server → Reservation → ℕ → ℕ
recharges_of s p dq = (dq + (p.runtime - s.q)) / p.runtime

-- the server after dq was taken: recharged, and its deadline postponed by a period each time (Abeni and Buttazzo 1998)
abbrev pub depleted_of : Server → Reservation → ℕ → Option (ℕ × Server)
depleted_of s p dq =
    let k = recharges_of s p dq in
    if nat_lt (s.d + k * p.period) (2 ^ 32)
    then Some (k, record { q = s.q + k * p.runtime - dq; d = s.d + k * p.period })
    else None
