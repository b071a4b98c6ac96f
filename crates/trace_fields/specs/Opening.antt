-- What stands in front of a line's event: the task that runs, the CPU, the moment.
use Rattle.std.specs.Prelude.{ℕ, Bool, not, ◌==◌, ◌+◌, ◌-◌, List, [], ◌∷◌, length, take, drop, reverse, nat_eq, codes, Option, Some, None, if◌then◌else◌, option_map}
use Rattle.std.specs.Option.{option_or}
use Rattle.std.specs.List.{ends_with, position_or_len}
use Rattle.std.specs.Char.{is_ascii_digit}
use Rattle.trace_fields.specs.Numbers.{number, bracketed, moment}
use Rattle.trace_fields.specs.Words.{without_spaces}
use Rattle.text_bytes.specs.Lines.{is_space, words_of}
use Rattle.trace_fields.specs.declared.opening.CpuWord.{CpuWord}
use Rattle.trace_fields.specs.declared.opening.Opening.{Opening}

-- the CPU of a word that so many bytes stand before, or the one before it
abbrev pub later_cpu : Option CpuWord → List ℕ → ℕ → Option CpuWord
later_cpu earlier word begin = option_or (option_map (λ n. record { cpu = n; start = begin }) (bracketed word)) earlier

-- an opening that ends here, where its last word is a moment
abbrev pub opening_at : Option ℕ → Option CpuWord → ℕ → Option Opening → Option Opening
opening_at None seen finish later = later
opening_at (Some moment) seen finish later = Some (record { at = moment; cpu = seen; end = finish })

-- what words from a place on tell: the first that is a moment, and the last that is a CPU before it
abbrev pub opening_from : ℕ → Option CpuWord → List (List ℕ) → Option Opening
opening_from begin seen [] = None
opening_from begin seen (word ∷ words) = opening_at (moment word) seen (begin + length word) (opening_from (begin + length word + 1) (later_cpu seen word begin) words)

abbrev pub opening_of : List ℕ → Option Opening
opening_of line = opening_from 0 None (words_of line)

-- how many bytes stand behind the last one that passes
abbrev pub length_behind : (ℕ → Bool) → List ℕ → ℕ
length_behind test text = position_or_len test (reverse text)

abbrev pub trimmed : List ℕ → List ℕ
trimmed text = take (length text - length_behind (λ b. not (is_space b)) text) text

-- a text without round brackets at its end
abbrev pub before_brackets : List ℕ → List ℕ
before_brackets text =
    if ends_with nat_eq text (codes ")") then trimmed (take (length text - length_behind (λ b. b == 40) text - 1) text) else text

abbrev pub last_digits : List ℕ → List ℕ
last_digits text = drop (length text - length_behind (λ b. not (is_ascii_digit b)) text) text

-- the pid of the task that runs, from what stands before the CPU's word
abbrev pub running : List ℕ → Option ℕ
running front = number (last_digits (before_brackets (trimmed front)))

abbrev pub without_last : List ℕ → List ℕ
without_last text = take (length text - 1) text

-- what stands before the pid of the task that runs and the byte in front of it
abbrev pub comm_before : List ℕ → List ℕ
comm_before text = without_last (take (length text - length (last_digits text)) text)

-- the comm of the task that runs, from what stands before the CPU's word
abbrev pub running_comm : List ℕ → List ℕ
running_comm front = without_spaces (trimmed (comm_before (before_brackets (trimmed front))))
