-- The kernel's numbers: u64 and s64, which wrap at 2 ^ 64. No number of a real record comes near.
use Rattle.std.specs.Prelude.{ℕ, ◌+◌, ◌-◌, ◌*◌, ◌/◌, ◌%◌, ◌^◌, ℤ, pos, int_lt, Bool, not, if◌then◌else◌, ◌==◌, bit_and}
use Rattle.std.specs.Int.{w64, cast_signed, int_wrapping_div}

abbrev pub plus : ℕ → ℕ → ℕ
plus a b = (a + b) % 2 ^ 64

abbrev pub less : ℕ → ℕ → ℕ
less a b = (a + (2 ^ 64 - b)) % 2 ^ 64

abbrev pub times : ℕ → ℕ → ℕ
times a b = (a * b) % 2 ^ 64

abbrev pub signed : ℕ → ℤ
signed n = cast_signed w64 n

-- dl_time_before
abbrev pub comes_before : ℕ → ℕ → Bool
comes_before a b = int_lt (signed (less a b)) (pos 0)

-- div64_s64
abbrev pub quotient_of : ℤ → ℕ → ℤ
quotient_of a b = if b == 0 then pos 0 else int_wrapping_div w64 a (signed b)

-- to_ratio: a bandwidth, in units of 2 ^ -20
abbrev pub ratio_of : ℕ → ℕ → ℕ
ratio_of runtime period = if period == 0 then 0 else times runtime (2 ^ 20) / period

-- one of these bits is set
abbrev pub contains_bits : ℕ → ℕ → Bool
contains_bits flags bits = not (bit_and flags bits == 0)
