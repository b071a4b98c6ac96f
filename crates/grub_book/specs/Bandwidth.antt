-- Reservations, their bandwidths, and the constants of a runqueue, in whole numbers.
use Rattle.std.specs.Prelude.{ℕ, ◌*◌, ◌/◌, ◌^◌, ◌≤◌, Bool, ◌&&◌, nat_le}
use Rattle.grub_book.specs.declared.params.TheConstants.{PERIOD_MAX}
use Rattle.grub_book.specs.declared.queue.TheConstants.{BW_UNIT}

-- what a task reserves: a runtime in each period, which is the relative deadline too (sched(7))
pub record Reservation : Type 0 where
  pub runtime : ℕ
  pub period : ℕ

-- the share of a processor, rounded down, with the kernel's 20 fractional bits: one is 2 ^ 20
abbrev pub bandwidth_of : Reservation → ℕ
bandwidth_of p = p.runtime * 2 ^ 20 / p.period

abbrev pub IsPeriod : ℕ → Type 0
IsPeriod period = (1 ≤ period) × (period ≤ PERIOD_MAX)

abbrev pub IsRuntime : ℕ → ℕ → Type 0
IsRuntime runtime period = (1 ≤ runtime) × (runtime ≤ period)

-- a reservation that is admitted at all: its numbers are in range, and its bandwidth is not nothing
pub record IsReservation (p : Reservation) : Type 0 where
  pub period : IsPeriod p.period
  pub runtime : IsRuntime p.runtime p.period
  pub bandwidth : 1 ≤ bandwidth_of p

-- the same as a test
abbrev pub reservation_fits : Reservation → Bool
reservation_fits p = nat_le 1 p.period && nat_le p.period PERIOD_MAX && nat_le 1 p.runtime && nat_le p.runtime p.period && nat_le 1 (bandwidth_of p)

-- the constants of a runqueue: the most bandwidth that it admits, and what running tasks may reclaim of it at all times (Umax and Uextra of sched-deadline.rst, "Bandwidth reclaiming")
pub record Capacity : Type 0 where
  pub most : ℕ
  pub extra : ℕ

abbrev pub IsMost : ℕ → Type 0
IsMost most = (1 ≤ most) × (most ≤ BW_UNIT)

-- constants of a runqueue that are admitted
pub record IsCapacity (c : Capacity) : Type 0 where
  pub most : IsMost c.most
  pub extra : c.extra ≤ c.most

abbrev pub capacity_fits : Capacity → Bool
capacity_fits c = nat_le 1 c.most && nat_le c.most BW_UNIT && nat_le c.extra c.most
