-- Numbers and moments, as words of a trace spell them. Leading zeros are allowed.
use Rattle.std.specs.Prelude.{ℕ, Bool, false, not, ◌&&◌, ◌==◌, ◌+◌, ◌-◌, ◌*◌, ◌^◌, min, List, length, take, drop, codes, position, slice_range, Option, Some, None, if◌then◌else◌, option_map, option_and_then}
use Rattle.std.specs.List.{list_all}
use Rattle.std.specs.Str.{bytes_eq}
use Rattle.std.specs.Char.{is_ascii_digit}
use Rattle.text_bytes.specs.Digits.{value}

-- what follows the key at the front of a word
abbrev pub after : List ℕ → List ℕ → Option (List ℕ)
after key word = if bytes_eq (take (length key) word) key then Some (drop (length key) word) else None

-- what stands before the key at the end of a word
abbrev pub before_end : List ℕ → List ℕ → Option (List ℕ)
before_end key word =
    if bytes_eq (drop (length word - length key) word) key then Some (take (length word - length key) word) else None

-- the number that a word of digits spells, or the greatest of 64 bits where it is greater
abbrev pub number : List ℕ → Option ℕ
number word = if not (length word == 0) && list_all is_ascii_digit word then Some (min (value word) 18446744073709551615) else None

-- the same, or the greatest of 32 bits
abbrev pub small_number : List ℕ → Option ℕ
small_number word = option_map (λ n. min n (2 ^ 32 - 1)) (number word)

-- the CPU of a word such as [003]
abbrev pub bracketed : List ℕ → Option ℕ
bracketed word = option_and_then (λ rest. option_and_then small_number (before_end (codes "]") rest)) (after (codes "[") word)

-- whether the priority of these digits, behind a minus where there is one, is -1
abbrev pub is_minus_one : Option (List ℕ) → List ℕ → Option Bool
is_minus_one None digits = option_map (λ n. false) (number digits)
is_minus_one (Some digits) word = option_map (λ n. n == 1) (number digits)

-- whether a priority is -1, that of SCHED_DEADLINE
abbrev pub is_deadline : List ℕ → Option Bool
is_deadline word = is_minus_one (after (codes "-") word) word

-- the nanoseconds that six to nine digits behind a point spell
abbrev pub fraction : List ℕ → Option ℕ
fraction digits =
    if length digits == 6 then option_map (λ n. n * 1000) (number digits) else
    (if length digits == 7 then option_map (λ n. n * 100) (number digits) else
    (if length digits == 8 then option_map (λ n. n * 10) (number digits) else
    (if length digits == 9 then number digits else None)))

-- a moment in nanoseconds, or the greatest of 64 bits where it is greater
abbrev pub nanos : Option ℕ → Option ℕ → Option ℕ
nanos seconds part =
    option_and_then (λ s. option_map (λ p. min (s * 1000000000 + p) 18446744073709551615) part) seconds

-- the moment of a text SECONDS.FRACTION
abbrev pub point_text : List ℕ → Option ℕ
point_text text =
    option_and_then (λ dot. nanos (number (take dot text)) (fraction (slice_range text (dot + 1) (length text)))) (position (λ b. b == 46) text)

-- the moment of a word such as 1020.411177: in nanoseconds
abbrev pub moment : List ℕ → Option ℕ
moment word = option_and_then point_text (before_end (codes ":") word)
