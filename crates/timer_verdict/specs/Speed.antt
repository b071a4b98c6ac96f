-- Where a governor sets the frequency of a CPU, no line tells the speed of a charge (dl_scaled_delta_exec): what is not compared then.
use Rattle.std.specs.Prelude.{ℕ, pos, int_lt, Bool, false, not, ◌&&◌, ◌==◌, nat_le, if◌then◌else◌, List, Option, Some, None, is_none, is_some, fold, filter, map, slice_get}
use Rattle.std.specs.List.{list_any}
use Rattle.std.specs.Option.{option_or}
use Rattle.trace_data.specs.declared.note.Policy.{Policy}
use Rattle.trace_data.specs.declared.note.Policy.TheVariants as policy
use Rattle.trace_data.specs.declared.quantities.Parameters.{Parameters}
use Rattle.kernel_rules.specs.Clock.{contains_bits}
use Rattle.kernel_rules.specs.declared.flags.TheConstants.{RECLAIM}
use Rattle.timer_record.specs.declared.lines.KeptLines.{KeptLines}
use Rattle.timer_record.specs.declared.lines.TaskLines.{TaskLines}
use Rattle.timer_record.specs.declared.lines.TaskNote.{TaskNote}
use Rattle.timer_tasks.specs.declared.observation.ObservedAnswer.TheVariants.{Unknown}
use Rattle.timer_tasks.specs.declared.observation.TimerKind.TheVariants.{Block}
use Rattle.timer_tasks.specs.declared.observation.Observation.{Observation}
use Rattle.timer_play.specs.Events.{given_by}
use Rattle.timer_verdict.specs.Numbers.{is_kind}
use Rattle.timer_verdict.specs.Verdicts.{deviates}

abbrev pub reserved_by : Policy → Option Parameters
reserved_by (policy.Deadline p) = Some p
reserved_by policy.Other = None

-- what a note reserves for a task
abbrev pub reserved_for : ℕ → TaskNote → Option Parameters
reserved_for task x = if x.task == task then reserved_by x.policy else None

-- of the notes of a task the first, and of those until a moment the last
abbrev pub with_first : ℕ → Option Parameters → TaskNote → Option Parameters
with_first task found x = option_or found (reserved_for task x)

abbrev pub with_last : ℕ → ℕ → Option Parameters → TaskNote → Option Parameters
with_last task at found x = if nat_le x.moment at then option_or (reserved_for task x) found else found

-- the reservation of a task: an option's, or that of its first note
abbrev pub parameters_of : KeptLines → ℕ → Option Parameters
parameters_of lines task = option_or (given_by (slice_get lines.tasks.items task)) (fold (with_first task) None lines.told.items)

-- its reservation at a moment: that of its last note until then
abbrev pub parameters_at : KeptLines → ℕ → ℕ → Option Parameters
parameters_at lines task at = fold (with_last task at) (parameters_of lines task) lines.told.items

-- SCHED_FLAG_RECLAIM is not set
abbrev pub is_plain_by : Option Parameters → Bool
is_plain_by (Some p) = not (contains_bits p.flags RECLAIM)
is_plain_by None = false

-- a note tells that the task does not reclaim; what an option says of it is held against the kernel
abbrev pub is_told_by : Option TaskLines → Bool
is_told_by (Some x) = is_none x.given
is_told_by None = false

abbrev pub is_charged_by_speed : KeptLines → Observation → Bool
is_charged_by_speed lines o = is_told_by (slice_get lines.tasks.items o.task) && is_plain_by (parameters_at lines o.task o.at)

-- the kernel charged less than in full: at a block it has the 0-lag time earlier
abbrev pub is_charged_less : Observation → Bool
is_charged_less o = deviates o && is_kind Block o && is_some o.kernel && int_lt (pos 0) o.difference

abbrev pub shows_speed : KeptLines → Observation → Bool
shows_speed lines o = is_charged_less o && is_charged_by_speed lines o

-- the tasks of such blocks
abbrev pub slow_tasks : KeptLines → List Observation → List ℕ
slow_tasks lines os = map (λ o. o.task) (filter (shows_speed lines) os)

-- nothing of them that differs is compared
abbrev pub is_left_out : List ℕ → Observation → Bool
is_left_out slow o = deviates o && list_any (λ n. n == o.task) slow

abbrev pub left_out_of : List ℕ → Observation → Observation
left_out_of slow o = if is_left_out slow o then record o { answer = Unknown } else o

abbrev pub without_slow : KeptLines → List Observation → List Observation
without_slow lines os = map (left_out_of (slow_tasks lines os)) os
