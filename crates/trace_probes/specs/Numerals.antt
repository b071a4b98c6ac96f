-- Numbers as words spell them, where they fit 64 bits. Leading zeros are allowed.
use Rattle.std.specs.Prelude.{ℕ, ℤ, pos, neg_ℤ, ◌&&◌, ◌==◌, nat_lt, ◌+◌, ◌*◌, ◌^◌, List, [], ◌∷◌, length, codes, Option, Some, None, if◌then◌else◌, option_and_then}
use Rattle.std.specs.Char.{digit_value}
use Rattle.trace_fields.specs.Numbers.{after}

-- a number with one digit more, where that is a digit and the number fits
abbrev pub pushed : ℕ → ℕ → ℕ → Option ℕ
pushed radix n c = if nat_lt (digit_value c) radix && nat_lt (n * radix + digit_value c) (2 ^ 64) then Some (n * radix + digit_value c) else None

-- a number with these digits more
abbrev pub digits_from : ℕ → ℕ → List ℕ → Option ℕ
digits_from radix n [] = Some n
digits_from radix n (c ∷ cs) = option_and_then (λ m. digits_from radix m cs) (pushed radix n c)

abbrev pub numeral : ℕ → List ℕ → Option ℕ
numeral radix word = if length word == 0 then None else digits_from radix 0 word

-- decimal digits, or hexadecimal ones behind 0x
abbrev pub unsigned_by : Option (List ℕ) → List ℕ → Option ℕ
unsigned_by None word = numeral 10 word
unsigned_by (Some digits) word = numeral 16 digits

abbrev pub unsigned : List ℕ → Option ℕ
unsigned word = unsigned_by (after (codes "0x") word) word

abbrev pub positive : ℕ → Option ℤ
positive n = if nat_lt n (2 ^ 63) then Some (pos n) else None

abbrev pub negative : ℕ → Option ℤ
negative n = if nat_lt n (2 ^ 63) then Some (neg_ℤ (pos n)) else None

-- the same, or decimal digits behind a minus; its size is below 2^63
abbrev pub signed_by : Option (List ℕ) → List ℕ → Option ℤ
signed_by None word = option_and_then positive (unsigned word)
signed_by (Some digits) word = option_and_then negative (numeral 10 digits)

abbrev pub signed : List ℕ → Option ℤ
signed word = signed_by (after (codes "-") word) word
