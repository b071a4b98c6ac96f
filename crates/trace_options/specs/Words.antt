-- Words of options.
use Rattle.std.specs.Prelude.{ℕ, ◌+◌, ◌-◌, ◌*◌, ◌^◌, ◌&&◌, ◌==◌, nat_le, nat_lt, Bool, true, List, [], ◌∷◌, ◌++◌, length, take, drop, codes, position, pos, neg_ℤ, Option, Some, None, option_map, option_and_then, if◌then◌else◌}
use Rattle.std.specs.Option.{option_map_or}
use Rattle.std.specs.Borrow.{Bor}
use Rattle.std.specs.List.{slice_split}
use Rattle.std.specs.Path.{rsplit_once}
use Rattle.std.specs.Str.{bytes_eq}
use Rattle.trace_fields.specs.Numbers.{before_end}
use Rattle.trace_probes.specs.Numerals.{numeral}
use Rattle.trace_data.specs.declared.note.Limit.{Limit}
use Rattle.trace_data.specs.declared.note.Limit.TheVariants.{Runtime}
use Rattle.trace_data.specs.declared.quantities.Parameters.{Parameters}
use Rattle.trace_lines.specs.NoteWords.{is_comma, range_in}
use Rattle.trace_lines.specs.declared.word.CpuRange.{CpuRange}
use Rattle.trace_options.specs.declared.words.FairServerOption.{FairServerOption}
use Rattle.trace_options.specs.declared.words.FairServerOption.TheVariants.{Absent, Reserves}

-- two texts that are pointed to
abbrev pub texts_of : Bor (List ℕ) × Bor (List ℕ) → List ℕ × List ℕ
texts_of parts = (parts.0.now, parts.1.now)

-- a span in nanoseconds, of so many microseconds: at least 1, and below 2^44, which is half a year
abbrev pub span_from : ℕ → Option ℕ
span_from micros = if nat_lt 0 micros && nat_lt micros (2 ^ 44) then Some (micros * 1000) else None

abbrev pub span_in : List ℕ → Option ℕ
span_in text = option_and_then span_from (numeral 10 text)

-- what stands before the first colon, and behind it
abbrev pub colon_parts : List ℕ → Option (List ℕ × List ℕ)
colon_parts text = option_map (λ i. (take i text, drop (i + 1) text)) (position (λ b. b == 58) text)

-- runtime <= deadline <= period
abbrev pub ordered : Parameters → Option Parameters
ordered it = if nat_le it.dl_runtime it.dl_deadline && nat_le it.dl_deadline it.dl_period then Some it else None

-- a reservation of these flags, runtime, period and deadline
abbrev pub reserved : ℕ → Option ℕ → Option ℕ → Option ℕ → Option Parameters
reserved bits runtime period deadline =
    option_and_then (λ r. option_and_then (λ p. option_and_then (λ d. ordered (record { dl_runtime = r; dl_deadline = d; dl_period = p; flags = bits })) deadline) period) runtime

-- the deadline is the period where it is not said
abbrev pub reserved_by : ℕ → List ℕ → List ℕ → Option (List ℕ × List ℕ) → Option Parameters
reserved_by bits runtime period None = reserved bits (span_in runtime) (span_in period) (span_in period)
reserved_by bits runtime rest (Some parts) = reserved bits (span_in runtime) (span_in parts.0) (span_in parts.1)

-- RUNTIME:PERIOD or RUNTIME:PERIOD:DEADLINE, in microseconds
abbrev pub parameters_in : ℕ → List ℕ → Option Parameters
parameters_in bits text = option_and_then (λ parts. reserved_by bits parts.0 parts.1 (colon_parts parts.1)) (colon_parts text)

-- a given task: its comm or its pid, and what it reserves
pub record Task : Type 0 where
  pub name : List ℕ
  pub parameters : Parameters

abbrev pub task_from : List ℕ → Parameters → Task
task_from name parameters = record { name = name; parameters = parameters }

-- a reservation with SCHED_FLAG_RECLAIM, which is 2, but with ,norec behind it
abbrev pub reservation_by : List ℕ → Option (List ℕ) → Option Parameters
reservation_by text None = parameters_in 2 text
reservation_by text (Some front) = parameters_in 0 front

abbrev pub reservation_in : List ℕ → Option Parameters
reservation_in text = reservation_by text (before_end (codes ",norec") text)

abbrev pub named : List ℕ → List ℕ → Option Task
named name reservation = if length name == 0 then None else option_map (task_from name) (reservation_in reservation)

-- the task of NAME=RESERVATION, whose name ends at the last sign of equality, which is 61
abbrev pub task_in : List ℕ → Option Task
task_in word = option_and_then (λ parts. named parts.0 parts.1) (rsplit_once 61 word)

abbrev pub limit_from : ℕ → Option ℕ → Option Limit
limit_from period runtime =
    option_and_then (λ r. if nat_lt 0 r && nat_le r period then Some (Runtime (pos r) period) else None) runtime

-- a runtime of -1 is no limit, another one is at most the period
abbrev pub limit_with : List ℕ → ℕ → Option Limit
limit_with runtime period =
    if nat_lt 0 period && nat_lt period (2 ^ 32) then (if bytes_eq runtime (codes "-1") then Some (Runtime (neg_ℤ (pos 1)) period) else limit_from period (numeral 10 runtime)) else None

-- how much of a processor SCHED_DEADLINE may have, RUNTIME:PERIOD in microseconds
abbrev pub limit_in : List ℕ → Option Limit
limit_in text = option_and_then (λ parts. option_and_then (limit_with parts.0) (numeral 10 parts.1)) (colon_parts text)

abbrev pub server_from : Parameters → FairServerOption
server_from it = Reserves it.dl_runtime it.dl_period

-- RUNTIME:PERIOD, in microseconds
abbrev pub server_with : List ℕ × List ℕ → Option FairServerOption
server_with parts = option_map server_from (reserved 0 (span_in parts.0) (span_in parts.1) (span_in parts.1))

-- the server of fair tasks on each runqueue: none, or what it reserves
abbrev pub server_in : List ℕ → Option FairServerOption
server_in text = if bytes_eq text (codes "none") then Some Absent else option_and_then server_with (colon_parts text)

-- whether CPUs are above those before them
abbrev pub is_behind : Option CpuRange → CpuRange → Bool
is_behind None range = true
is_behind (Some before) range = nat_lt before.last range.first

-- these ranges, and those of the parts behind them, each above the one before it
abbrev pub ranges_on : List CpuRange → Option CpuRange → List (List ℕ) → Option (List CpuRange)
ranges_on ranges before [] = Some ranges
ranges_on ranges before (part ∷ parts) =
    option_and_then (λ range. if is_behind before range then ranges_on (ranges ++ range ∷ []) (Some range) parts else None) (range_in part)

-- the CPUs of a list as 0-3,8, which increase
abbrev pub domain_in : List ℕ → Option (List CpuRange)
domain_in text = ranges_on [] None (slice_split is_comma text)

-- the nanoseconds of these seconds, and of so many digits behind their point, where they are below 2^64
abbrev pub moment_from : ℕ → ℕ → ℕ → Option ℕ
moment_from seconds digits count =
    let nanos = seconds * 1000000000 + digits * 10 ^ (9 - count) in
    if nat_lt nanos (2 ^ 64) then Some nanos else None

abbrev pub moment_with : List ℕ → List ℕ → Option ℕ
moment_with whole part =
    if nat_le (length part) 9 then option_and_then (λ s. option_and_then (λ d. moment_from s d (length part)) (numeral 10 part)) (numeral 10 whole) else None

-- the moment of seconds as 1835.045053 or 1835, with at most nine digits behind the point, which is 46
abbrev pub moment_in : List ℕ → Option ℕ
moment_in text =
    option_map_or (λ i. moment_with (take i text) (drop (i + 1) text)) (position (λ b. b == 46) text) (option_and_then (λ s. moment_from s 0 0) (numeral 10 text))
