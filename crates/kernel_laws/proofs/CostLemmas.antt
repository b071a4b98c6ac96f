-- What a charge comes to where no number wraps.
use Rattle.std.proofs.Common.{◌≡◌, ℕ, ◌+◌, ◌-◌, ◌*◌, ◌/◌, ◌^◌, ◌<◌, ◌≤◌, arith, refl}
use Rattle.std.proofs.Math.Nat.{mod-eq_of_lt, mul-le-mul_right}
use Rattle.std.proofs.lemmas.Nat.{mul-le}
use Rattle.kernel_rules.specs.Clock.{plus, less, times}
use Rattle.kernel_laws.specs.Rounding.{ratio_for}
use Rattle.kernel_laws.specs.inside.Charges.{kernel_charge, exact_charge}
use Rattle.kernel_laws.proofs.RoundingLemmas.{ratio_low}

pub times_is : (x y : ℕ) → x * y < 2 ^ 64 → times x y ≡ x * y
times_is x y h = mod-eq_of_lt h

pub less_is : (x y : ℕ) → y ≤ x → x < 2 ^ 64 → less x y ≡ x - y
less_is x y h k = omega arith

pub plus_is : (x y : ℕ) → x + y < 2 ^ 64 → plus x y ≡ x + y
plus_is x y h = mod-eq_of_lt h

-- the scaled rate
scale : (u max : ℕ) → 0 < max → u ≤ max → u * ratio_for max ≤ 268435456
scale u max h k =
    let a : u * ratio_for max ≤ max * ratio_for max = mul-le-mul_right (ratio_for max) k in
    let b : ratio_for max * max ≤ 268435456 = ratio_low max h in
    omega arith

pub kernel_is : (dt u max : ℕ) → 0 < max → u ≤ max → max ≤ 1048576 → dt < 2 ^ 43
    → times dt (times u (ratio_for max) / 2 ^ 8) / 2 ^ 20 ≡ kernel_charge dt u (ratio_for max)
kernel_is dt u max h k m s =
    let a : u * ratio_for max ≤ 268435456 = scale u max h k in
    let e : times u (ratio_for max) ≡ u * ratio_for max = times_is u (ratio_for max) (omega arith) in
    let w : u * ratio_for max / 2 ^ 8 ≤ 1048576 = omega arith in
    let p : dt * (u * ratio_for max / 2 ^ 8) ≤ 2 ^ 43 * 1048576 = mul-le dt (u * ratio_for max / 2 ^ 8) (2 ^ 43) 1048576 (omega arith) w in
    let f : times dt (u * ratio_for max / 2 ^ 8) ≡ dt * (u * ratio_for max / 2 ^ 8) = times_is dt (u * ratio_for max / 2 ^ 8) (omega arith) in
    rw e (rw f refl)

pub exact_is : (dt u max : ℕ) → u ≤ max → max ≤ 1048576 → dt < 2 ^ 43 → times dt u / max ≡ exact_charge dt u max
exact_is dt u max k m s =
    let p : dt * u ≤ 2 ^ 43 * 1048576 = mul-le dt u (2 ^ 43) 1048576 (omega arith) (omega arith) in
    let f : times dt u ≡ dt * u = times_is dt u (omega arith) in
    rw f refl
