-- The kernel's ratio and its charge, held to one exact division.
use Rattle.std.proofs.Common.{ap, ◌≡◌, ℕ, ◌+◌, ◌*◌, ◌/◌, ◌^◌, ◌<◌, ◌≤◌, arith}
use Rattle.std.proofs.Math.Nat.{div-mul-le_self, lt-div-mul-add, mul-le-mul_left, mul-le-mul_right, le_of_mul-le-mul_right}
use Rattle.std.proofs.lemmas.Nat.{le-div}
use Rattle.kernel_laws.specs.Rounding.{ratio_for}
use Rattle.kernel_laws.specs.inside.Charges.{kernel_charge, exact_charge}

-- the ratio is at most 2^28 by max, and less than one below
pub ratio_low : (max : ℕ) → 0 < max → ratio_for max * max ≤ 268435456
ratio_low max h =
    let a : 2 ^ 40 / max * max ≤ 2 ^ 40 = div-mul-le_self (2 ^ 40) max in
    let b : 2 ^ 40 / max / 2 ^ 12 * 2 ^ 12 ≤ 2 ^ 40 / max = div-mul-le_self (2 ^ 40 / max) (2 ^ 12) in
    let c : 2 ^ 40 / max / 2 ^ 12 * 2 ^ 12 * max ≤ 2 ^ 40 / max * max = mul-le-mul_right max b in
    omega arith

pub ratio_high : (max : ℕ) → 0 < max → 268435456 < ratio_for max * max + max
ratio_high max h =
    let a : 2 ^ 40 < 2 ^ 40 / max * max + max = lt-div-mul-add h in
    let b : 2 ^ 40 / max < 2 ^ 40 / max / 2 ^ 12 * 2 ^ 12 + 2 ^ 12 = lt-div-mul-add (omega arith) in
    let b' : 2 ^ 40 / max + 1 ≤ 2 ^ 40 / max / 2 ^ 12 * 2 ^ 12 + 2 ^ 12 = omega arith in
    let c : (2 ^ 40 / max + 1) * max ≤ (2 ^ 40 / max / 2 ^ 12 * 2 ^ 12 + 2 ^ 12) * max = mul-le-mul_right max b' in
    omega arith

at_most : (dt u r w k max : ℕ) → r * max ≤ 268435456 → w * 256 ≤ u * r → k * 1048576 ≤ dt * w → k * max ≤ dt * u
at_most dt u r w k max h0 h1 h2 =
    let h4 : dt * (w * 256) * max ≤ dt * (u * r) * max = mul-le-mul_right max (mul-le-mul_left dt h1) in
    let h5 : dt * u * (r * max) ≤ dt * u * 268435456 = mul-le-mul_left (dt * u) h0 in
    let h6 : k * 1048576 * max ≤ dt * w * max = mul-le-mul_right max h2 in
    omega arith

-- the charge is never more
pub never_more : (dt u max : ℕ) → 0 < max → kernel_charge dt u (ratio_for max) ≤ exact_charge dt u max
never_more dt u max h =
    le-div (kernel_charge dt u (ratio_for max)) (dt * u) max h
    (at_most dt u (ratio_for max) (u * ratio_for max / 2 ^ 8) (kernel_charge dt u (ratio_for max)) max (ratio_low max h)
    (div-mul-le_self (u * ratio_for max) (2 ^ 8)) (div-mul-le_self (dt * (u * ratio_for max / 2 ^ 8)) (2 ^ 20)))

nearly : (dt u r w k d max : ℕ) → 0 < max → 268435456 < r * max + max → u * r < w * 256 + 256 → dt * w < k * 1048576 + 1048576 → d * max ≤ dt * u
    → 268435456 * d + 256 ≤ 268435456 * k + dt * (u + 255) + 268435456
nearly dt u r w k d max h g0 g1 g2 g3 =
    let h0 : dt * u * 268435457 ≤ dt * u * (r * max + max) = mul-le-mul_left (dt * u) (omega arith) in
    let h1 : dt * (u * r) * max ≤ dt * (w * 256 + 255) * max = mul-le-mul_right max (mul-le-mul_left dt (omega arith)) in
    let h2 : (dt * w + 1) * max ≤ (k * 1048576 + 1048576) * max = mul-le-mul_right max (omega arith) in
    let all : (268435456 * d + 256) * max ≤ (268435456 * k + dt * (u + 255) + 268435456) * max = omega arith in
    le_of_mul-le-mul_right all h

-- and less by little: so many times 2^-28 of the run as the rate and 255, and less than a nanosecond
pub hardly_less : (dt u max : ℕ) → 0 < max
    → 268435456 * exact_charge dt u max + 256 ≤ 268435456 * kernel_charge dt u (ratio_for max) + dt * (u + 255) + 268435456
hardly_less dt u max h =
    nearly dt u (ratio_for max) (u * ratio_for max / 2 ^ 8) (kernel_charge dt u (ratio_for max)) (exact_charge dt u max) max h (ratio_high max h)
    (lt-div-mul-add (omega arith)) (lt-div-mul-add (omega arith)) (div-mul-le_self (dt * u) max)

pub alike : (dt u max : ℕ) → max ≡ 2 ^ 20 → kernel_charge dt u (ratio_for max) ≡ exact_charge dt u max
alike dt u max all = let e : u * 256 / 2 ^ 8 ≡ u = omega arith in rw all (ap (λ x. dt * x / 2 ^ 20) e)
