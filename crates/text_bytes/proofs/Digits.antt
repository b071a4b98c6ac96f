-- What a word of digits spells.
use Rattle.std.proofs.Common.{◌≡◌, ℕ, zero, suc, ◌+◌, ◌-◌, ◌*◌, ◌<◌, true, refl, List, [], ◌∷◌, length, get_or, take, ap, ◌∙◌, arith, rules}
use Rattle.std.specs.Char.{is_ascii_digit, digit_value}
use Rattle.std.specs.List.{list_all}
use Rattle.std.specs.Int.{IsInRange}
use Rattle.std.proofs.lemmas.Str.Parse.{IsDigitsTest, IsNumeralModel, numerals_by_value}
use Rattle.std.proofs.lemmas.Int.Digits.{digits_value_more}
use Rattle.text_bytes.specs.Digits.{value}

pub tells : IsDigitsTest (λ ds. list_all is_ascii_digit ds ≡ true)
tells = search rules

pub numerals : IsNumeralModel (λ ds. list_all is_ascii_digit ds ≡ true) value
numerals = numerals_by_value _ tells

digit_is : (c : ℕ) → IsInRange 48 57 c → digit_value c ≡ c - 48
digit_is c h = search rules

-- a byte that is a digit, and one of a list of digits
pub digit_range : (c : ℕ) → is_ascii_digit c ≡ true → IsInRange 48 57 c
digit_range c h = (tells.parts c [] (rw h refl)).0

pub digit_at : (ds : List ℕ) (i : ℕ) → list_all is_ascii_digit ds ≡ true → i < length ds → IsInRange 48 57 (get_or ds i 0)
digit_at [] i h lt = absurd (omega arith)
digit_at (c ∷ cs) zero h lt = (tells.parts c cs h).0
digit_at (c ∷ cs) (suc i) h lt = digit_at cs i (tells.parts c cs h).1 (omega arith)

-- one more digit
pub value_more : (ds : List ℕ) (i : ℕ) → IsInRange 48 57 (get_or ds i 0) → i < length ds → value (take (i + 1) ds) ≡ value (take i ds) * 10 + (get_or ds i 0 - 48)
value_more ds i h lt = digits_value_more 10 ds i lt ∙ ap (λ (d : ℕ). value (take i ds) * 10 + d) (digit_is (get_or ds i 0) h)
