-- Each runtime within a period gives a pair that the law of ratios takes.
use Rattle.std.proofs.Common.{◌≡◌, ℕ, zero, suc, ◌+◌, ◌*◌, ◌/◌, ◌^◌, ◌<◌, ◌≤◌, ◌⊎◌, inl, inr, true, arith}
use Rattle.std.proofs.Math.Nat.{div-mul-le_self, lt-div-mul-add, mul-le-mul_left, mul-le-mul_right, le_of_mul-le-mul_right}
use Rattle.std.proofs.lemmas.Nat.{le-div}
use Rattle.std.proofs.lemmas.Bool.{cases_lt}
use Rattle.std.proofs.lemmas.Bool.Decides.{nat_tests}
use Rattle.probe_findings.specs.Ratio.{is_ratio, max_bw_by, bw_ratio_by}

-- a number that times m + 1 is at most 2^28 is at most the ratio
least : (r p m a : ℕ) → 0 < r → r * 1048576 < m * p + p → a * (m + 1) ≤ 268435456 → a ≤ p * 2 ^ 20 / r / 2 ^ 12
least r p m a some h k =
    let b : a * (r * 1048576) ≤ a * (m * p + p) = mul-le-mul_left a (omega arith) in
    let c : a * (m + 1) * p ≤ 268435456 * p = mul-le-mul_right p k in
    let d : a * 2 ^ 12 * r ≤ p * 2 ^ 20 = omega arith in
    le-div a (p * 2 ^ 20 / r) (2 ^ 12) (omega arith) (le-div (a * 2 ^ 12) (p * 2 ^ 20) r some d)

-- the ratio times m is at most 2^28
most : (r p m q : ℕ) → 0 < p → m * p ≤ r * 1048576 → q * 4096 * r ≤ p * 1048576 → q * m ≤ 268435456
most r p m q some h k =
    let a : q * (m * p) ≤ q * (r * 1048576) = mul-le-mul_left q h in
    let b : q * m * p ≤ 268435456 * p = omega arith in
    le_of_mul-le-mul_right b some

-- the ratio times the runtime is at most the period, in these units
product : (r p : ℕ) → p * 2 ^ 20 / r / 2 ^ 12 * 4096 * r ≤ p * 1048576
product r p =
    let a : p * 2 ^ 20 / r / 2 ^ 12 * 2 ^ 12 ≤ p * 2 ^ 20 / r = div-mul-le_self (p * 2 ^ 20 / r) (2 ^ 12) in
    let b : p * 2 ^ 20 / r / 2 ^ 12 * 2 ^ 12 * r ≤ p * 2 ^ 20 / r * r = mul-le-mul_right r a in
    let c : p * 2 ^ 20 / r * r ≤ p * 2 ^ 20 = div-mul-le_self (p * 2 ^ 20) r in
    omega arith

taken_zero : (m q : ℕ) → m ≡ 0 → 2 ^ 28 ≤ q → is_ratio m q ≡ true
taken_zero m q e h = grind (arith, nat_tests)

taken_all : (m q : ℕ) → 2 ^ 20 ≤ m → q ≡ 256 → is_ratio m q ≡ true
taken_all m q h e = grind (arith, nat_tests)

taken_part : (m q : ℕ) → 0 < m → m < 2 ^ 20 → 2 ^ 28 / (m + 1) ≤ q → q ≤ 2 ^ 28 / m → is_ratio m q ≡ true
taken_part m q h k l g = grind (arith, nat_tests)

-- by max_bw m and bw_ratio q
by_cases : (r p m q : ℕ) → 0 < r → r ≤ p → m * p ≤ r * 1048576 → q * 4096 * r ≤ p * 1048576 → 256 ≤ q
    → ((a : ℕ) → a * (m + 1) ≤ 268435456 → a ≤ q) → (zero < m) ⊎ (m ≤ zero) → (m < 2 ^ 20) ⊎ (2 ^ 20 ≤ m) → is_ratio m q ≡ true
by_cases r p m q some within low up base above (inr none) whole =
    taken_zero m q (omega arith) (above (2 ^ 28) (let e : m ≡ 0 = omega arith in rw e (omega arith)))
by_cases r p m q some within low up base above (inl part) (inl less) =
    taken_part m q part less (above (2 ^ 28 / (m + 1)) (div-mul-le_self (2 ^ 28) (m + 1)))
    (le-div q (2 ^ 28) m part (most r p m q (omega arith) low up))
by_cases r p m q some within low up base above (inl part) (inr all) =
    let a : 2 ^ 20 * p ≤ m * p = mul-le-mul_right p all in
    let b : p ≤ r = omega arith in
    let c : q * 4096 * r ≤ 1048576 * r = omega arith in
    let d : q * 4096 ≤ 1048576 = le_of_mul-le-mul_right c some in
    taken_all m q all (omega arith)

pub each_is_taken : (r p : ℕ) → 0 < r → r ≤ p → is_ratio (max_bw_by r p) (bw_ratio_by r p) ≡ true
each_is_taken r p some within =
    let low : max_bw_by r p * p ≤ r * 1048576 = div-mul-le_self (r * 2 ^ 20) p in
    let high : r * 1048576 < max_bw_by r p * p + p = lt-div-mul-add (omega arith) in
    let base : 256 ≤ bw_ratio_by r p = le-div 256 (p * 2 ^ 20 / r) (2 ^ 12) (omega arith) (le-div 1048576 (p * 2 ^ 20) r some (omega arith)) in
    by_cases r p (max_bw_by r p) (bw_ratio_by r p) some within low (product r p) base (λ a k. least r p (max_bw_by r p) a some high k)
    (cases_lt zero (max_bw_by r p)) (cases_lt (max_bw_by r p) (2 ^ 20))
