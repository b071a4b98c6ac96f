-- How often a replenishment adds the runtime: the least number that brings the budget above 0.
use Rattle.std.specs.Prelude.{ℕ, pos, neg_ℤ, ◌*◌, ◌<◌, ◌≤◌}
use Rattle.kernel_rules.specs.Budget.{recharges_of}

-- of a budget that is overdrawn by so much (the loop of replenish_dl_entity)
pub record IsLeastRecharge (runtime overdrawn times : ℕ) : Type 0 where
  pub enough : overdrawn < times * runtime
  pub least : (fewer : ℕ) → fewer < times → fewer * runtime ≤ overdrawn

abbrev pub RechargesLeast : ℕ → ℕ → Type 0
RechargesLeast runtime overdrawn =
    0 < runtime → IsLeastRecharge runtime overdrawn (recharges_of (neg_ℤ (pos overdrawn)) runtime)
