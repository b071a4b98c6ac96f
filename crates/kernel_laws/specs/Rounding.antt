-- How a kernel from 6.5 on rounds a charge, held to one exact division.
use Rattle.std.specs.Prelude.{ℕ, ◌≡◌, ◌-◌, ◌+◌, ◌*◌, ◌/◌, ◌^◌, ◌<◌, ◌≤◌, true}
use Rattle.kernel_rules.specs.declared.charge.ChargeLaw.TheVariants.{LinuxFrom65, Documentation}
use Rattle.kernel_rules.specs.declared.charge.ChargedRunqueue.{ChargedRunqueue}
use Rattle.kernel_rules.specs.declared.entity.Entity.{Entity}
use Rattle.kernel_rules.specs.declared.flags.TheConstants.{RECLAIM}
use Rattle.kernel_rules.specs.Clock.{contains_bits}
use Rattle.kernel_rules.specs.Charge.{charging_of, rate_of, cost_of}

-- bw_ratio of a runqueue's max_bw, in units of 2^-8 (init_dl_rq_bw_ratio)
abbrev pub ratio_for : ℕ → ℕ
ratio_for max = 2 ^ 40 / max / 2 ^ 12

-- a task with SCHED_FLAG_RECLAIM on a runqueue whose sums are in order, and a run of less than four hours
pub record IsOrdinary (e : Entity) (r : ChargedRunqueue) (nanos : ℕ) : Type 0 where
  pub reclaims : contains_bits e.parameters.flags RECLAIM ≡ true
  pub some : 0 < r.max_bw
  pub most : r.max_bw ≤ 2 ^ 20
  pub ratio : r.bw_ratio ≡ ratio_for r.max_bw
  pub own : e.dl_bw ≤ r.max_bw
  pub active : r.sums.running_bw ≤ r.sums.this_bw
  pub inactive : r.sums.this_bw - r.sums.running_bw ≤ r.max_bw
  pub present : r.sums.this_bw < 2 ^ 64
  pub extra : r.sums.extra_bw ≤ r.max_bw
  pub short : nanos < 2 ^ 43

-- the rate of a charge, in units of 2^-20
abbrev pub rate_for : Entity → ChargedRunqueue → ℕ
rate_for e r = rate_of LinuxFrom65 e r (charging_of LinuxFrom65 e r)

-- at least the own bandwidth, and at most max_bw
pub record RateIsBetween (e : Entity) (r : ChargedRunqueue) : Type 0 where
  pub least : e.dl_bw ≤ rate_for e r
  pub most : rate_for e r ≤ r.max_bw

-- the kernel never takes more
abbrev pub ChargesNoMore : Entity → ChargedRunqueue → ℕ → Type 0
ChargesNoMore e r nanos = cost_of LinuxFrom65 e r nanos ≤ cost_of Documentation e r nanos

-- and it takes hardly less: at most (rate + 255) / 2^28 of the run, and less than a nanosecond
abbrev pub ChargesHardlyLess : Entity → ChargedRunqueue → ℕ → Type 0
ChargesHardlyLess e r nanos =
    2 ^ 28 * cost_of Documentation e r nanos + 256 ≤ 2 ^ 28 * cost_of LinuxFrom65 e r nanos + nanos * (rate_for e r + 255) + 2 ^ 28

-- where nothing is kept back from SCHED_DEADLINE (sched_rt_runtime_us is -1), both take the same
abbrev pub ChargesAlike : Entity → ChargedRunqueue → ℕ → Type 0
ChargesAlike e r nanos = r.max_bw ≡ 2 ^ 20 → cost_of LinuxFrom65 e r nanos ≡ cost_of Documentation e r nanos
