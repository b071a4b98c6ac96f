-- Lines that tell of lost events, and the head of a trace, whose lines begin with #.
use Rattle.std.specs.Prelude.{ℕ, Bool, false, ◌&&◌, ◌||◌, ◌==◌, nat_lt, nat_eq, ◌+◌, List, [], ◌∷◌, length, take, codes, slice_range, position, Option}
use Rattle.std.specs.List.{starts_with}
use Rattle.std.specs.Str.{bytes_eq}
use Rattle.std.specs.Option.{option_map_or}
use Rattle.trace_fields.specs.Numbers.{number}
use Rattle.trace_fields.specs.Words.{behind, without_spaces, cpu_field}
use Rattle.text_bytes.specs.Lines.{word_of, words_of}

abbrev pub is_comment : List ℕ → Bool
is_comment line = starts_with nat_eq line (codes "#")

-- whether the first number is the lesser
abbrev pub is_less : Option ℕ → Option ℕ → Bool
is_less kept written = option_map_or (λ k. option_map_or (λ w. nat_lt k w) written false) kept false

-- whether a word KEPT/WRITTEN has numbers of which the first is the lesser
abbrev pub is_fewer : List ℕ → Bool
is_fewer word =
    option_map_or (λ slash. is_less (number (take slash word)) (number (slice_range word (slash + 1) (length word)))) (position (λ b. b == 47) word) false

-- whether a line tells of fewer entries in the buffer than were written
abbrev pub has_fewer : List ℕ → Bool
has_fewer line =
    option_map_or (λ rest. is_fewer (word_of (without_spaces rest))) (behind (codes "entries-in-buffer/entries-written:") line) false

-- whether one of the words begins with PERF_RECORD_LOST, or they are [LOST .. EVENTS]
abbrev pub say_lost : Bool → List (List ℕ) → Bool
say_lost opened [] = false
say_lost opened (word ∷ words) =
    starts_with nat_eq word (codes "PERF_RECORD_LOST") || (opened && bytes_eq word (codes "EVENTS]")) || say_lost (opened || bytes_eq word (codes "[LOST")) words

-- whether a line tells that events were lost
abbrev pub is_lost : List ℕ → Bool
is_lost line = (is_comment line && has_fewer line) || say_lost false (words_of line)

-- the N of the first word #P:N of a line, not the line's first word
abbrev pub processors : List ℕ → Option ℕ
processors line = cpu_field (codes "#P:") line
