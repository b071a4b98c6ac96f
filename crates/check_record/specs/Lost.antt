-- Lines that a record lacks, and a limit that changed while it was made: there is no verdict by timers then.
use Rattle.std.specs.Prelude.{ℕ, ◌+◌, ◌-◌, ◌^◌, min, Bool, false, not, ◌&&◌, ◌||◌, ◌==◌, nat_lt, if◌then◌else◌, Option, Some, None, unwrap_or}
use Rattle.std.specs.Ordering.{int_eq}
use Rattle.trace_lines.specs.declared.note.Lost.{Lost}
use Rattle.probe_verdict.specs.declared.heading.DroppedLines.{DroppedLines}
use Rattle.trace_data.specs.declared.note.Limit.{Limit}
use Rattle.trace_data.specs.declared.note.Limit.TheVariants.{MaxBw, Runtime}
use Rattle.trace_data.specs.declared.note.TraceNote.{TraceNote}
use Rattle.trace_data.specs.declared.note.TraceNote.TheVariants as note
use Rattle.trace_options.specs.declared.fault.Fault.{Fault}
use Rattle.trace_options.specs.declared.fault.Fault.TheVariants as fault

-- a count that is full stays so
abbrev pub counted_up : ℕ → ℕ → ℕ
counted_up m n = min (m + n) (2 ^ 64 - 1)

-- what notes say was lost, with one note more
abbrev pub dropped_with : Option DroppedLines → Lost → DroppedLines
dropped_with None lost = record { lines = lost.lines; hits = lost.missed }
dropped_with (Some before) lost = record { lines = counted_up before.lines lost.lines; hits = counted_up before.hits lost.missed }

abbrev pub lost_by : Option Lost → Option DroppedLines → Option DroppedLines
lost_by (Some lost) before = Some (dropped_with before lost)
lost_by None before = before

-- the line of the first note by which lines were lost
abbrev pub losing_by : Option DroppedLines → ℕ → Option ℕ
losing_by (Some lost) line = if nat_lt 0 lost.lines then Some line else None
losing_by None line = None

abbrev pub lost_line_by : Option Lost → Option DroppedLines → ℕ → ℕ → ℕ
lost_line_by (Some lost) before number line = unwrap_or (losing_by before line) number
lost_line_by None before number line = line

-- the limit at the end is another than at the begin
abbrev pub is_another_limit : Limit → Limit → Bool
is_another_limit (MaxBw begin) (MaxBw end) = not (begin == end)
is_another_limit (Runtime runtime period) (Runtime runtime' period') = not (int_eq runtime runtime') || not (period == period')
is_another_limit (MaxBw begin) (Runtime runtime period) = false
is_another_limit (Runtime runtime period) (MaxBw end) = false

abbrev pub is_another_by : Option Limit → Option Limit → Bool
is_another_by (Some begin) (Some end) = is_another_limit begin end
is_another_by (Some begin) None = false
is_another_by None end = false

-- a note of a moment, or of the start, stands behind a line of a later moment
abbrev pub is_behind_by : Option ℕ → ℕ → Bool
is_behind_by at latest = nat_lt (unwrap_or at 0) latest

-- where a note at the end tells another limit, its line
abbrev pub changed_by : TraceNote → ℕ → Option Limit → Option ℕ → Option ℕ
changed_by (note.End limit total_bw) number begin before = if is_another_by begin limit then Some number else before
changed_by (note.Head kernel limit total_bw) number begin before = before
changed_by (note.Runqueue cpu sums domain server) number begin before = before
changed_by (note.Capacity cpu capacity) number begin before = before
changed_by (note.Task pid at by cpu policy) number begin before = before

-- a note of a task is at fault behind a line of a later moment
abbrev pub fault_noted : TraceNote → ℕ → ℕ → Option Fault → Option Fault
fault_noted (note.Task pid at by cpu policy) number latest before = if is_behind_by at latest then Some (fault.BadNote number) else before
fault_noted (note.End limit total_bw) number latest before = before
fault_noted (note.Head kernel limit total_bw) number latest before = before
fault_noted (note.Runqueue cpu sums domain server) number latest before = before
fault_noted (note.Capacity cpu capacity) number latest before = before
