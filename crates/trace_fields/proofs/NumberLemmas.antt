-- What a word of digits spells.
use Rattle.std.proofs.Common.{◌≡◌, ℕ, ◌*◌, ◌^◌, ◌<◌, ◌≤◌, Bool, true, false, not, ◌&&◌, ◌==◌, if◌then◌else◌, min, List, length, Option, Some, None, option_map, refl, ap, ◌∙◌, arith}
use Rattle.std.specs.Char.{is_ascii_digit}
use Rattle.std.specs.List.{list_all}
use Rattle.std.proofs.lemmas.Str.Parse.{digits_value_short}
use Rattle.std.proofs.lemmas.Nat.{mul-le}
use Rattle.trace_fields.specs.Numbers.{fraction, number}
use Rattle.text_bytes.specs.Digits.{value}
use Rattle.text_bytes.proofs.Digits.{numerals}

min_scaled : (v by : ℕ) → v < 10 ^ 8 → by ≤ 1000 → min (min v 18446744073709551615 * by) 18446744073709551615 ≡ min v 18446744073709551615 * by
min_scaled v by small few =
    let same : min v 18446744073709551615 ≡ v = omega arith in
    let most : v * by ≤ 10 ^ 8 * 1000 = mul-le v by (10 ^ 8) 1000 (omega arith) few in
    rw same (omega arith)

-- a number of few digits, scaled, is below every limit
pub scaled_short : (ds : List ℕ) (by : ℕ) → length ds ≤ 8 → by ≤ 1000 → option_map (λ n. min (n * by) 18446744073709551615) (number ds) ≡ option_map (λ n. n * by) (number ds)
scaled_short ds by short few = go (not (length ds == 0)) (list_all is_ascii_digit ds) refl
  where
    go : (a b : Bool) → list_all is_ascii_digit ds ≡ b → option_map (λ n. min (n * by) 18446744073709551615) (if a && b then Some (min (value ds) 18446744073709551615) else None) ≡ option_map (λ n. n * by) (if a && b then Some (min (value ds) 18446744073709551615) else None)
    go true true e = ap Some (min_scaled (value ds) by (digits_value_short numerals ds 8 e short) few)
    go true false e = refl
    go false b e = refl

-- what a number scaled as the code does is
pub scaled_is : (ds : List ℕ) (by : ℕ) (o r : Option ℕ) → o ≡ number ds → r ≡ option_map (λ n. min (n * by) 18446744073709551615) o → length ds ≤ 8 → by ≤ 1000 → r ≡ option_map (λ n. n * by) (number ds)
scaled_is ds by o r is e short few = e ∙ (ap (λ (q : Option ℕ). option_map (λ n. min (n * by) 18446744073709551615) q) is ∙ scaled_short ds by short few)

pub fraction_six : (ds : List ℕ) → length ds ≡ 6 → fraction ds ≡ option_map (λ n. n * 1000) (number ds)
fraction_six ds e = rw e refl

pub fraction_seven : (ds : List ℕ) → length ds ≡ 7 → fraction ds ≡ option_map (λ n. n * 100) (number ds)
fraction_seven ds e = rw e refl

pub fraction_eight : (ds : List ℕ) → length ds ≡ 8 → fraction ds ≡ option_map (λ n. n * 10) (number ds)
fraction_eight ds e = rw e refl
