-- The 0-lag time of a block, in exact numbers.
use Rattle.std.specs.Prelude.{ℕ, ℤ, pos, ◌≡◌, ◌^◌, ◌<◌, ◌-ℤ◌, ◌*ℤ◌, int_div, FitsSigned}
use Rattle.std.specs.Int.{w64}
use Rattle.kernel_rules.specs.declared.entity.Entity.{Entity}
use Rattle.kernel_rules.specs.Activity.{zero_lag_of}

-- deadline - budget * period / runtime, from this clock on
abbrev pub exact_zero_lag : Entity → ℕ → ℤ
exact_zero_lag e clock =
    (pos e.budget.deadline -ℤ int_div (e.budget.runtime *ℤ pos e.parameters.dl_period) (pos e.parameters.dl_runtime)) -ℤ pos clock

-- numbers of the kernel, and a product of budget and period that its s64 holds: where it does not, the kernel's is another moment
pub record IsUnwrapped (e : Entity) (clock : ℕ) : Type 0 where
  pub reserved : 0 < e.parameters.dl_runtime
  pub runtime : e.parameters.dl_runtime < 2 ^ 63
  pub period : e.parameters.dl_period < 2 ^ 63
  pub deadline : e.budget.deadline < 2 ^ 63
  pub clock_is : clock < 2 ^ 63
  pub budget : FitsSigned w64 e.budget.runtime
  pub product : FitsSigned w64 (e.budget.runtime *ℤ pos e.parameters.dl_period)
  pub ahead : FitsSigned w64 (exact_zero_lag e clock)

abbrev pub ZeroLagIsExact : Entity → ℕ → Type 0
ZeroLagIsExact e clock = IsUnwrapped e clock → zero_lag_of e clock ≡ exact_zero_lag e clock
