-- What a note makes of a record's tasks and runqueues.
use Rattle.std.specs.Prelude.{ℕ, ◌+◌, ◌-◌, ◌^◌, Bool, ◌||◌, nat_lt, min, Option, Some, None, is_none, slice_get}
use Rattle.timer_record.specs.declared.lines.TaskNote.{TaskNote}
use Rattle.timer_tasks.specs.declared.note.NoteStep.{NoteStep}
use Rattle.timer_tasks.specs.declared.note.NoteStep.TheVariants.{WasThere, Admitted, Changed, Left, Nothing}
use Rattle.timer_tasks.specs.declared.task.DeadlineTask.{DeadlineTask}
use Rattle.timer_tasks.specs.Notes.{admitted_of, changed_of, left_of, step_by, was_there_of}
use Rattle.timer_play.specs.States.{State, begun_with, replaced}

-- the kernel took the change before the record's first line, to a microsecond
abbrev pub is_before : TaskNote → ℕ → Bool
is_before x begins = is_none x.at || nat_lt (min (x.moment + 1000) (2 ^ 64 - 1)) begins

abbrev pub stepped : NoteStep → DeadlineTask → TaskNote → State → State
stepped (WasThere p) t x m = begun_with x.task (was_there_of t x.cpu p) m
stepped (Admitted p) t x m = replaced x.task (admitted_of t x.moment x.is_by_itself x.cpu p) m
stepped (Changed p) t x m = replaced x.task (changed_of t x.moment p) m
stepped Left t x m = replaced x.task (left_of t) m
stepped Nothing t x m = m

abbrev pub told_by : Option DeadlineTask → TaskNote → State → State
told_by (Some t) x m = stepped (step_by t x.policy (is_before x m.terms.begins)) t x m
told_by None x m = m

unfoldable pub told_in : TaskNote → State → State
told_in x m = told_by (slice_get m.tasks x.task) x m
