-- A line that contradicts a note: sched_getattr(2) was asked too late after the call, and the note tells a later state.
use Rattle.std.specs.Prelude.{ℕ, Bool, true, false, nat_le, if◌then◌else◌, List, position, Option, Some, None, slice_get}
use Rattle.std.specs.Option.{option_or}
use Rattle.trace_data.specs.declared.fixed.Fixed.{Fixed}
use Rattle.trace_data.specs.declared.fixed.Fixed.TheVariants as fixed
use Rattle.timer_record.specs.declared.event.KeptLine.{KeptLine}
use Rattle.timer_record.specs.declared.late.LateNote.{LateNote}
use Rattle.timer_record.specs.declared.lines.TaskNote.{TaskNote}
use Rattle.timer_record.specs.declared.moment.Passing.{Passing}
use Rattle.timer_record.specs.Kept.{Kept}
use Rattle.timer_record.specs.Moments.{is_outside_of}

-- what is known of the task of a pid
abbrev pub passing_by : Option ℕ → Kept → Option Passing
passing_by (Some n) k = slice_get k.passing n
passing_by None k = None

-- a line shows a task in the class, and its notes so far put it outside
abbrev pub contradicted_by : Option Passing → ℕ → Option LateNote
contradicted_by (Some p) pid = if is_outside_of p then Some (record { pid = pid; moment = p.noted }) else None
contradicted_by None pid = None

abbrev pub contradicted_at : Bool → ℕ → Kept → Option LateNote
contradicted_at is_deadline pid k = if is_deadline then contradicted_by (passing_by (k.numbers pid) k) pid else None

abbrev pub contradicted_in : Fixed → Kept → Option LateNote
contradicted_in (fixed.Woken pid is_deadline cpu) k = contradicted_at is_deadline pid k
contradicted_in (fixed.Switched pid is_deadline stop next_pid next_is_deadline) k =
    option_or (contradicted_at is_deadline pid k) (contradicted_at next_is_deadline next_pid k)
contradicted_in other k = None

abbrev pub is_up_to : ℕ → Option TaskNote → Bool
is_up_to at (Some note) = nat_le note.moment at
is_up_to at None = false

-- the note that such a line of this moment contradicts, where no note up to the moment is still to come
abbrev pub late_noted : ℕ → Fixed → Kept → Option LateNote
late_noted at line k = if is_up_to at (slice_get k.notes k.come) then None else contradicted_in line k

abbrev pub is_from : ℕ → KeptLine → Bool
is_from at l = nat_le at l.at

abbrev pub line_by : Option KeptLine → Option ℕ
line_by (Some l) = Some l.line
line_by None = None

abbrev pub line_at : List KeptLine → Option ℕ → Option ℕ
line_at ls (Some place) = line_by (slice_get ls place)
line_at ls None = None

-- the first line that is kept from a moment on
abbrev pub line_from : ℕ → List KeptLine → Option ℕ
line_from at ls = line_at ls (position (is_from at) ls)
