-- The quotient and one.
use Rattle.std.proofs.Common.{◌≡◌, ℕ, zero, suc, ◌+◌, ◌*◌, ◌/◌, ◌<◌, ◌≤◌, false, ◌==◌, arith, rules}
use Rattle.std.proofs.Math.Nat.{div-mul-le_self, lt-div-mul-add, mul-le-mul_right}
use Rattle.kernel_laws.specs.Replenishing.{IsLeastRecharge, RechargesLeast}

is_least : (r a : ℕ) → 0 < r → IsLeastRecharge r a (a / r + 1)
is_least r a h = record {
  enough = let e : a < a / r * r + r = lt-div-mul-add h in omega arith;
  least = λ fewer k.
      let m : fewer * r ≤ a / r * r = mul-le-mul_right r (omega arith) in
      omega (arith, div-mul-le_self a r);
}

pub recharges_least : (r a : ℕ) → RechargesLeast r a
recharges_least r zero h =
    let z : (r == 0) ≡ false = search (rules, h) in
    rw z (is_least r zero h)
recharges_least r (suc a) h =
    let z : (r == 0) ≡ false = search (rules, h) in
    rw z (is_least r (suc a) h)
