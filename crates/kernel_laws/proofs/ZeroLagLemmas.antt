-- The 0-lag time where no number wraps.
use Rattle.std.proofs.Common.{◌≡◌, ℕ, ℤ, pos, neg_ℤ, ◌^◌, ◌<◌, ◌-ℤ◌, ◌*ℤ◌, ◌==◌, true, false, int_div, FitsSigned, arith, rules, refl, ap, ◌∙◌}
use Rattle.std.specs.Int.{w64, cast_unsigned, int_wrapping_mul, int_wrap}
use Rattle.std.proofs.Math.Dec.{ltb}
use Rattle.std.proofs.Math.Nat.{mod-lt}
use Rattle.std.proofs.lemmas.Bool.{lt-ltb}
use Rattle.std.proofs.lemmas.Int.{wrapping_mul_is, int_wrap_fits, quot_fits, fits_signed_from_abs, wrapping_sub-bits, wrapping_sub_onto, int_wrap-add_left, to_z-of_z}
use Rattle.kernel_rules.specs.declared.entity.Entity.{Entity}
use Rattle.kernel_rules.specs.Clock.{less, signed, quotient_of}
use Rattle.kernel_rules.specs.Activity.{zero_lag_of}
use Rattle.kernel_laws.specs.ZeroLag.{ZeroLagIsExact}

signed_is : (n : ℕ) → n < 2 ^ 63 → signed n ≡ pos n
signed_is n h =
    let f : ltb n (2 ^ 63) ≡ true = lt-ltb n (2 ^ 63) h in
    rw f refl

product_is : (q : ℤ) (pe : ℕ) → pe < 2 ^ 63 → FitsSigned w64 q → FitsSigned w64 (q *ℤ pos pe) → int_wrapping_mul w64 q (signed pe) ≡ q *ℤ pos pe
product_is q pe h f g =
    rw (signed_is pe h) (wrapping_mul_is w64 q (pos pe) f (fits_signed_from_abs w64 (pos pe) h) ∙ int_wrap_fits w64 (q *ℤ pos pe) g)

span_is : (p : ℤ) (rt : ℕ) → 0 < rt → rt < 2 ^ 63 → FitsSigned w64 p → quotient_of p rt ≡ int_div p (pos rt)
span_is p rt some h f =
    let z : (rt == 0) ≡ false = search (rules, some) in
    rw z (rw (signed_is rt h) (to_z-of_z w64 (int_div p (pos rt)) (quot_fits w64 p (pos rt) f (search (rules, some)))))

moment_is : (d clock : ℕ) (span : ℤ) → d < 2 ^ 63 → clock < 2 ^ 63 → FitsSigned w64 span → FitsSigned w64 ((pos d -ℤ span) -ℤ pos clock)
    → signed (less (less d (cast_unsigned w64 span)) clock) ≡ (pos d -ℤ span) -ℤ pos clock
moment_is d clock span h k f g =
    let m = less d (cast_unsigned w64 span) in
    let outer = wrapping_sub-bits w64 m clock (mod-lt _ (omega arith)) (omega arith) in
    let inner = wrapping_sub_onto w64 d span (omega arith) f in
    outer ∙ ap (λ y. int_wrap w64 (y -ℤ signed clock)) inner ∙ int_wrap-add_left w64 (signed d -ℤ span) (neg_ℤ (signed clock))
    ∙ ap (λ y. int_wrap w64 ((y -ℤ span) -ℤ signed clock)) (signed_is d h) ∙ ap (λ y. int_wrap w64 ((pos d -ℤ span) -ℤ y)) (signed_is clock k)
    ∙ int_wrap_fits w64 ((pos d -ℤ span) -ℤ pos clock) g

pub zero_lag_is_exact : (e : Entity) (clock : ℕ) → ZeroLagIsExact e clock
unfolding zero_lag_of
zero_lag_is_exact e clock o =
    let p = e.budget.runtime *ℤ pos e.parameters.dl_period in
    let s = int_div p (pos e.parameters.dl_runtime) in
    let a = product_is e.budget.runtime e.parameters.dl_period o.period o.budget o.product in
    let b = span_is p e.parameters.dl_runtime o.reserved o.runtime o.product in
    let f : FitsSigned w64 s = quot_fits w64 p (pos e.parameters.dl_runtime) o.product (search (rules, o.reserved)) in
    rw a (rw b (moment_is e.budget.deadline clock s o.deadline o.clock_is f o.ahead))
