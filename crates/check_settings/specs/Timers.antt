-- The lines of timers of a record that are kept so far, with the tasks that options give.
use Rattle.std.specs.Prelude.{ℕ, max, List, Option, Some, None, map, option_map, slice_get, unwrap_or}
use Rattle.trace_data.specs.declared.note.Policy.{Policy}
use Rattle.trace_options.specs.declared.options.TaskOption.{TaskOption}
use Rattle.timer_record.specs.Late.{late_noted, line_from}
use Rattle.timer_record.specs.declared.late.LateNote.{LateNote}
use Rattle.trace_data.specs.declared.fixed.Fixed.{Fixed}
use Rattle.check_settings.specs.declared.timers.LateLine.{LateLine}
use Rattle.timer_record.specs.Kept.{Kept, changed, kept_at_first, kept_of}
use Rattle.timer_record.specs.Records.{EventLine, given_in, kept_with, noted_in}
use Rattle.check_settings.specs.Sought.{place_of, unshown}
use Rattle.check_settings.specs.declared.sought.SoughtTask.{SoughtTask}
use Rattle.check_settings.specs.declared.timers.RecordTimers.{RecordTimers}
use Rattle.check_settings.specs.declared.wanted.WantedLines.{WantedLines}

-- the given tasks; the latest moment of a line; what is kept, from the first line or note on
pub record Timers : Type 0 where
  pub sought : List SoughtTask
  pub latest : ℕ
  pub kept : Option Kept

abbrev pub timers_of : RecordTimers → Timers
timers_of r = record { sought = r.sought.items; latest = r.latest; kept = option_map kept_of r.record }

abbrev pub timers_at_first : List TaskOption → Timers
timers_at_first given = record { sought = map unshown given; latest = 0; kept = None }

-- lines are kept from here on
abbrev pub kept_from : WantedLines → Option Kept → Option Kept
kept_from wanted (Some k) = Some k
kept_from wanted None = Some (kept_at_first wanted.idle wanted.cancels)

abbrev pub begun : WantedLines → Timers → Timers
begun wanted t = record t { kept = kept_from wanted t.kept }

-- a line of an event more
abbrev pub with_event : EventLine → Timers → Timers
with_event e t = record t { latest = max t.latest e.at; kept = option_map (kept_with e) t.kept }

-- a note of a task more
abbrev pub with_note : ℕ → Option ℕ → Option ℕ → ℕ → Policy → Timers → Timers
with_note pid at by cpu policy t = record t { kept = option_map (noted_in pid at by cpu policy) t.kept }

-- a given task is that of this pid
abbrev pub shown_as : ℕ → ℕ → List SoughtTask → List SoughtTask
shown_as pid place ss = changed (λ s. record s { pid = Some pid }) place ss

abbrev pub given_by : Option SoughtTask → WantedLines → ℕ → Option Kept → Option Kept
given_by (Some s) wanted pid kept = option_map (given_in (record { pid = pid; parameters = s.given.parameters })) (kept_from wanted kept)
given_by None wanted pid kept = kept

abbrev pub found_at : Option ℕ → WantedLines → ℕ → Timers → Timers
found_at (Some place) wanted pid t = record t { sought = shown_as pid place t.sought; kept = given_by (slice_get t.sought place) wanted pid t.kept }
found_at None wanted pid t = t

-- a line shows the task of this pid and comm: it may be one of those that options give
unfoldable pub with_shown : WantedLines → ℕ → List ℕ → Timers → Timers
with_shown wanted pid comm t = found_at (place_of pid comm t.sought) wanted pid t

-- a line that contradicts a note: extra_bw is not known from the first line on that is kept from the note's moment on
abbrev pub late_by : Option LateNote → ℕ → Kept → Option LateLine
late_by (Some late) n k = Some (record { line = unwrap_or (line_from late.moment k.kept) n; pid = late.pid })
late_by None n k = None

abbrev pub late_in : ℕ → ℕ → Fixed → Kept → Option LateLine
late_in n at fixed k = late_by (late_noted at fixed k) n k

-- nothing is kept
abbrev pub forgotten : Timers → Timers
forgotten t = record t { kept = None }
