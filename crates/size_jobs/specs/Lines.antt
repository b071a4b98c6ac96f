-- The jobs of all tasks, as the lines of a trace are read.
use Rattle.std.specs.Prelude.{ℕ, ◌==◌, ◌+◌, ◌-◌, ◌^◌, min, max, Bool, true, false, ◌||◌, List, Option, Some, None, if◌then◌else◌, unwrap_or}
use Rattle.std.specs.Option.{option_or}
use Rattle.trace_data.specs.declared.fixed.Fixed.{Fixed}
use Rattle.trace_data.specs.declared.fixed.Fixed.TheVariants as fixed
use Rattle.trace_data.specs.declared.fixed.Stop.{Stop}
use Rattle.trace_data.specs.declared.line.RecordLine.{RecordLine}
use Rattle.trace_data.specs.declared.line.RecordLine.TheVariants as line
use Rattle.trace_data.specs.declared.line.Said.{Said}
use Rattle.trace_data.specs.declared.line.Said.TheVariants as said
use Rattle.trace_fields.specs.declared.shown.Shown.{Shown}
use Rattle.trace_lines.specs.Reading.{After}
use Rattle.trace_lines.specs.declared.line.ToldLine.{ToldLine}
use Rattle.trace_lines.specs.declared.scheduled.Scheduled.{Scheduled}
use Rattle.trace_lines.specs.declared.scheduled.Scheduled.TheVariants as scheduled
use Rattle.size_jobs.specs.Taking.{Tasks, none_watched, tasks_of, told_to}
use Rattle.size_jobs.specs.declared.lines.JobLines.{JobLines}
use Rattle.size_jobs.specs.declared.task.JobStep.{JobStep}
use Rattle.size_jobs.specs.declared.task.JobStep.TheVariants.{Wakes, Runs, Enters, Stops}

-- the tasks, with the wakes of sched_wakeup, and with those of sched_waking until one of sched_wakeup comes; the moments of
-- the first and the last event; how many processors the head tells of; the greatest CPU of a line; whether a line tells of a run
pub record Jobs : Type 0 where
  pub woken : Tasks
  pub waking : Tasks
  pub has_wakeup : Bool
  pub first : Option ℕ
  pub last : ℕ
  pub processors : Option ℕ
  pub greatest : ℕ
  pub has_runs : Bool

abbrev pub jobs_of : JobLines → Jobs
jobs_of lines = record {
  woken = tasks_of lines.by_wakeup;
  waking = tasks_of lines.by_waking;
  has_wakeup = lines.has_wakeup;
  first = lines.first;
  last = lines.last;
  processors = lines.processors;
  greatest = lines.greatest;
  has_runs = lines.has_runs;
}

abbrev pub jobs_at_first : Jobs
jobs_at_first = record {
  woken = none_watched;
  waking = none_watched;
  has_wakeup = false;
  first = None;
  last = 0;
  processors = None;
  greatest = 0;
  has_runs = false;
}

-- a line tells of a task; pid 0 is that of each idle task, which has no jobs
abbrev pub told_to_all : Shown (List ℕ) → JobStep → Jobs → Jobs
told_to_all task told j =
    if task.pid == 0 then j else record j { woken = told_to task told j.woken; waking = if j.has_wakeup then j.waking else told_to task told j.waking }

-- wakes of sched_waking do not count in a trace with a line of sched_wakeup
abbrev pub preferring : Jobs → Jobs
preferring j = if j.has_wakeup then j else record j { has_wakeup = true; waking = none_watched }

abbrev pub wakes : ℕ → ℕ → Shown (List ℕ) → Bool → Jobs → Jobs
wakes n at task is_new j = told_to_all task (Wakes n at is_new) (if is_new then j else preferring j)

abbrev pub expects : ℕ → ℕ → Shown (List ℕ) → Jobs → Jobs
expects n at task j = if j.has_wakeup || task.pid == 0 then j else record j { waking = told_to task (Wakes n at false) j.waking }

abbrev pub runs : Shown (List ℕ) → ℕ → Jobs → Jobs
runs task nanos j = told_to_all task (Runs nanos) (record j { has_runs = true })

-- an event of the scheduler stands at this moment, on a line of this CPU
abbrev pub passed : ℕ → ℕ → Jobs → Jobs
passed at cpu j = record j { first = Some (unwrap_or j.first at); last = at; greatest = max j.greatest cpu }

abbrev pub wake_told : ℕ → ℕ → Shown (List ℕ) → Option (Scheduled (List ℕ)) → Jobs → Jobs
wake_told n at task None j = j
wake_told n at task (Some (scheduled.BadWaking flaw)) j = j
wake_told n at task (Some (scheduled.Woken class is_new)) j = wakes n at task is_new j
wake_told n at task (Some (scheduled.Waking m cpu other class)) j = j
wake_told n at task (Some (scheduled.Switched class next next_class)) j = j

abbrev pub switch_told : ℕ → Shown (List ℕ) → Stop → Option (Scheduled (List ℕ)) → Jobs → Jobs
switch_told at task stop None j = j
switch_told at task stop (Some (scheduled.BadWaking flaw)) j = j
switch_told at task stop (Some (scheduled.Switched class next next_class)) j = told_to_all next Enters (told_to_all task (Stops at stop class) j)
switch_told at task stop (Some (scheduled.Waking m cpu other class)) j = j
switch_told at task stop (Some (scheduled.Woken class is_new)) j = j

-- an event that shows this task, on a line of this number
abbrev pub fixed_told : ℕ → ℕ → ℕ → Fixed → Shown (List ℕ) → Option (Scheduled (List ℕ)) → Jobs → Jobs
fixed_told n at cpu (fixed.Migrated p deadline to) task s j = passed at cpu j
fixed_told n at cpu (fixed.Ran p nanos) task s j = runs task nanos (passed at cpu j)
fixed_told n at cpu (fixed.Woken p deadline on) task s j = wake_told n at task s (passed at cpu j)
fixed_told n at cpu (fixed.Switched p deadline stop next next_deadline) task s j = switch_told at task stop s (passed at cpu j)
fixed_told n at cpu event task s j = j

abbrev pub event_told : ℕ → ℕ → ℕ → Said → Option (Shown (List ℕ)) → Option (Scheduled (List ℕ)) → Jobs → Jobs
event_told n at cpu (said.Fixed event) (Some task) s j = fixed_told n at cpu event task s j
event_told n at cpu (said.Fixed event) None s j = j
event_told n at cpu (said.Probe probe) shown s j = j

-- a line of sched_waking, or one that tells nothing; who reads jobs takes no line of sched_waking that is wrong
abbrev pub quiet_told : ℕ → Option (Scheduled (List ℕ)) → Jobs → Jobs
quiet_told n None j = j
quiet_told n (Some (scheduled.BadWaking flaw)) j = j
quiet_told n (Some (scheduled.Waking at cpu task class)) j = expects n at task (passed at cpu j)
quiet_told n (Some (scheduled.Woken class is_new)) j = j
quiet_told n (Some (scheduled.Switched class next next_class)) j = j

abbrev pub line_told_by : ℕ → RecordLine → Option (Shown (List ℕ)) → Option (Scheduled (List ℕ)) → Jobs → Jobs
line_told_by n (line.Event at grain cpu pid event) shown s j = event_told n at cpu event shown s j
line_told_by n line.Quiet shown s j = quiet_told n s j
line_told_by n (line.Note note) shown s j = j
line_told_by n (line.Flawed flaw) shown s j = j

abbrev pub line_told : ℕ → ToldLine (List ℕ) → Jobs → Jobs
line_told n told j = line_told_by n told.line told.shown told.scheduled j

-- the first line that tells how many processors there are counts
abbrev pub headed : Option ℕ → Jobs → Jobs
headed count j = record j { processors = option_or j.processors count }

-- what a line comes to, whose number and words these are
abbrev pub jobs_step : ℕ → ToldLine (List ℕ) → Jobs → After Jobs
jobs_step n told j = record { more = true; seen = line_told n told (headed told.processors j) }

-- the tasks that a trace tells of, and how many processors
abbrev pub tasks_told : Jobs → Tasks
tasks_told j = if j.has_wakeup then j.woken else j.waking

abbrev pub processors_told : Jobs → ℕ
processors_told j = unwrap_or j.processors (min (j.greatest + 1) (2 ^ 32 - 1))
