-- The fields of a line.
use Rattle.std.specs.Prelude.{ℕ, Bool, not, ◌&&◌, ◌==◌, ◌+◌, List, [], ◌∷◌, length, drop, nat_eq, slice_range, Option, Some, None, if◌then◌else◌, option_and_then}
use Rattle.std.specs.List.{starts_with, position_or_len}
use Rattle.std.specs.Borrow.{Bor}
use Rattle.text_bytes.specs.Lines.{is_space, word_of}
use Rattle.trace_fields.specs.Numbers.{number, small_number, is_deadline}

abbrev pub text_of : Bor (List ℕ) → List ℕ
text_of text = text.now

-- from its first byte on that is no space
abbrev pub without_spaces : List ℕ → List ℕ
without_spaces text = drop (position_or_len (λ b. not (is_space b)) text) text

-- how many bytes stand before the first space that the key follows, counted from a number on
abbrev pub place_from : ℕ → List ℕ → List ℕ → Option ℕ
place_from n key [] = None
place_from n key (b ∷ bs) = if is_space b && starts_with nat_eq bs key then Some n else place_from (n + 1) key bs

-- how many bytes stand before the first space that the key follows
abbrev pub place_of : List ℕ → List ℕ → Option ℕ
place_of key text = place_from 0 key text

-- what follows the first space with the key behind it
abbrev pub behind : List ℕ → List ℕ → Option (List ℕ)
behind key text = option_and_then (λ place. Some (slice_range text (place + 1 + length key) (length text))) (place_of key text)

abbrev pub filled : List ℕ → Option (List ℕ)
filled word = if length word == 0 then None else Some word

-- the value of the field with this key: the word behind it, where that is not empty
abbrev pub value_of : List ℕ → List ℕ → Option (List ℕ)
value_of key text = option_and_then (λ rest. filled (word_of rest)) (behind key text)

abbrev pub number_field : List ℕ → List ℕ → Option ℕ
number_field key text = option_and_then number (value_of key text)

abbrev pub cpu_field : List ℕ → List ℕ → Option ℕ
cpu_field key text = option_and_then small_number (value_of key text)

-- whether the field has the priority of SCHED_DEADLINE
abbrev pub deadline_field : List ℕ → List ℕ → Option Bool
deadline_field key text = option_and_then is_deadline (value_of key text)
