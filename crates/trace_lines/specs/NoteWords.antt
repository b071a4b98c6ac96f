-- Words of notes.
use Rattle.std.specs.Prelude.{ℕ, ℤ, Bool, not, ◌&&◌, ◌==◌, nat_lt, nat_le, ◌+◌, ◌-◌, ◌%◌, ◌^◌, List, length, take, drop, codes, position, slice_range, Option, Some, None, if◌then◌else◌, option_map, option_and_then, is_some, unwrap_or}
use Rattle.std.specs.Option.{option_map_or}
use Rattle.std.specs.List.{before_first, list_all, position_or_len, slice_split}
use Rattle.std.specs.Char.{is_ascii_digit}
use Rattle.std.specs.Int.{w64, cast_unsigned}
use Rattle.text_bytes.specs.Lines.{word_of}
use Rattle.trace_fields.specs.Numbers.{after}
use Rattle.trace_fields.specs.Words.{behind}
use Rattle.trace_probes.specs.Numerals.{numeral, signed, unsigned}
use Rattle.trace_data.specs.declared.note.Kernel.{Kernel}
use Rattle.trace_data.specs.declared.note.Limit.{Limit}
use Rattle.trace_data.specs.declared.note.Limit.TheVariants.{Runtime}
use Rattle.trace_data.specs.declared.note.ServerReservation.{ServerReservation}
use Rattle.trace_lines.specs.declared.word.CpuRange.{CpuRange}
use Rattle.trace_lines.specs.declared.word.TheConstants.{CPUS}

-- the word behind a key
abbrev pub word_in : List ℕ → List ℕ → Option (List ℕ)
word_in key text = option_map word_of (behind key text)

abbrev pub number_in : List ℕ → List ℕ → Option ℕ
number_in key text = option_and_then unsigned (word_in key text)

-- the number of a word, where there is one
abbrev pub optional_of : Option (List ℕ) → Option (Option ℕ)
optional_of None = Some None
optional_of (Some word) = option_map (λ n. Some n) (unsigned word)

-- the number behind a key, where the key stands there
abbrev pub optional : List ℕ → List ℕ → Option (Option ℕ)
optional key text = optional_of (word_in key text)

-- a sum of bandwidths, modulo 2^64: the kernel may print it with a sign
abbrev pub sum_by : Option (List ℕ) → List ℕ → Option ℕ
sum_by None word = unsigned word
sum_by (Some digits) word = option_map (cast_unsigned w64) (signed word)

abbrev pub sum_word : List ℕ → Option ℕ
sum_word word = sum_by (after (codes "-") word) word

abbrev pub optional_sum_of : Option (List ℕ) → Option (Option ℕ)
optional_sum_of None = Some None
optional_sum_of (Some word) = option_map (λ n. Some n) (sum_word word)

-- the sum behind a key, where the key stands there
abbrev pub optional_sum : List ℕ → List ℕ → Option (Option ℕ)
optional_sum key text = optional_sum_of (word_in key text)

abbrev pub small : ℕ → Option ℕ
small n = if nat_lt n (2 ^ 32) then Some n else None

-- the number that the digits at the front spell, and what stands behind them
abbrev pub front_number : List ℕ → Option ℕ
front_number text = option_and_then small (numeral 10 (before_first (λ b. not (is_ascii_digit b)) text))

abbrev pub behind_digits : List ℕ → List ℕ
behind_digits text = drop (position_or_len (λ b. not (is_ascii_digit b)) text) text

-- the third number of a version, or 0 where there is none
abbrev pub patch_of : List ℕ → ℕ
patch_of text = option_map_or (λ rest. unwrap_or (front_number rest) 0) (after (codes ".") text) 0

abbrev pub kernel_with : ℕ → List ℕ → Option Kernel
kernel_with major text =
    option_and_then (λ rest. option_map (λ minor. record { major = major; minor = minor; patch = patch_of (behind_digits rest) }) (front_number rest)) (after (codes ".") text)

-- the version of a word such as 6.12.111+deb12-cloud-amd64
abbrev pub kernel_of : List ℕ → Option Kernel
kernel_of word = option_and_then (λ major. kernel_with major (behind_digits word)) (front_number word)

abbrev pub runtime_limit : ℤ → ℕ → Option Limit
runtime_limit runtime period = if period == 0 then None else Some (Runtime runtime period)

-- RUNTIME:PERIOD in microseconds
abbrev pub rt_limit : List ℕ → Option Limit
rt_limit word =
    option_and_then (λ colon. option_and_then (λ r. option_and_then (λ p. runtime_limit r p) (unsigned (slice_range word (colon + 1) (length word)))) (signed (take colon word))) (position (λ b. b == 58) word)

-- a fair server's RUNTIME/PERIOD in nanoseconds
abbrev pub server_of : List ℕ → Option ServerReservation
server_of word =
    option_and_then (λ slash. option_and_then (λ r. option_map (λ p. record { dl_runtime = r; dl_period = p }) (unsigned (slice_range word (slash + 1) (length word)))) (unsigned (take slash word))) (position (λ b. b == 47) word)

abbrev pub server_by : Option (List ℕ) → Option (Option ServerReservation)
server_by None = Some None
server_by (Some word) = option_map (λ s. Some s) (server_of word)

-- the fair server behind server=, where that stands there
abbrev pub server_in : List ℕ → Option (Option ServerReservation)
server_in text = server_by (word_in (codes "server=") text)

-- CPUs in their order
abbrev pub ordered : ℕ → ℕ → Option CpuRange
ordered from to = if nat_le from to && nat_lt to CPUS then Some (record { first = from; last = to }) else None

abbrev pub range_from : Option ℕ → Option ℕ → Option CpuRange
range_from from to = option_and_then (λ f. option_and_then (ordered f) to) from

-- a CPU, as 5, or CPUs from one to another, as 0-3
abbrev pub range_in : List ℕ → Option CpuRange
range_in part =
    option_map_or (λ dash. range_from (numeral 10 (take dash part)) (numeral 10 (slice_range part (dash + 1) (length part)))) (position (λ b. b == 45) part) (range_from (numeral 10 part) (numeral 10 part))

abbrev pub is_cpu_range : List ℕ → Bool
is_cpu_range part = is_some (range_in part)

abbrev pub is_comma : ℕ → Bool
is_comma b = b == 44

-- a list of them, as 0-3,5
abbrev pub is_domain : List ℕ → Bool
is_domain word = list_all is_cpu_range (slice_split is_comma word)
