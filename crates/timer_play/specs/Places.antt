-- What the lists of tasks and runqueues become.
use Rattle.std.specs.Prelude.{ℕ, List, Option, Some, None, slice_get, slice_set}
use Rattle.trace_data.specs.declared.quantities.Sums.{Sums}
use Rattle.timer_record.specs.declared.event.KeptLine.{KeptLine}
use Rattle.kernel_rules.specs.Clock.{plus, less}
use Rattle.timer_tasks.specs.declared.observation.ObservedAnswer.{ObservedAnswer}
use Rattle.timer_tasks.specs.declared.observation.TimerKind.{TimerKind}
use Rattle.timer_tasks.specs.declared.observation.Moments.{Moments}
use Rattle.timer_tasks.specs.declared.observation.Observation.{Observation}
use Rattle.timer_tasks.specs.declared.runqueue.Runqueue.{Runqueue}
use Rattle.timer_tasks.specs.declared.task.DeadlineTask.{DeadlineTask}
use Rattle.timer_tasks.specs.Effects.{task_effect_of, task_share_of, with_of, without_of}

-- the runqueue of a CPU becomes what a rule makes of it
abbrev pub at_cpu_by : Option Runqueue → (Runqueue → Runqueue) → List Runqueue → ℕ → List Runqueue
at_cpu_by (Some r) f rs cpu = slice_set rs cpu (f r)
at_cpu_by None f rs cpu = rs

abbrev pub at_cpu : (Runqueue → Runqueue) → List Runqueue → ℕ → List Runqueue
at_cpu f rs cpu = at_cpu_by (slice_get rs cpu) f rs cpu

-- a task becomes another: its runqueue loses what it had in the sums, and the other's gains what that has
abbrev pub runqueues_after : Option DeadlineTask → DeadlineTask → List Runqueue → List Runqueue
runqueues_after (Some before) t rs =
    at_cpu (λ r. with_of r (task_effect_of t)) (at_cpu (λ r. without_of r (task_effect_of before)) rs before.cpu) t.cpu
runqueues_after None t rs = rs

-- and so does extra_bw of each CPU of the root domain, modulo 2 ^ 64
abbrev pub taken_after : Option DeadlineTask → DeadlineTask → ℕ → ℕ → ℕ
taken_after (Some before) t cpus taken = plus (less taken (task_share_of before cpus)) (task_share_of t cpus)
taken_after None t cpus taken = taken

-- the sums of a runqueue, from whose extra_bw so much is taken
abbrev pub sums_of : Option Runqueue → ℕ → Sums
sums_of (Some r) taken = record { this_bw = r.sums.this_bw; running_bw = r.sums.running_bw; extra_bw = less r.sums.extra_bw taken }
sums_of None taken = record { this_bw = 0; running_bw = 0; extra_bw = 0 }

-- an observation is of the task as it is at the line
abbrev pub observation_of : KeptLine → ℕ → DeadlineTask → TimerKind → Moments → Sums → ObservedAnswer → Observation
observation_of k number t kind m sums answer = record {
  line = k.line;
  at = k.at;
  cpu = t.cpu;
  task = number;
  kind = kind;
  predicted = m.predicted;
  kernel = m.kernel;
  difference = m.difference;
  runtime = t.entity.budget.runtime;
  deadline = t.entity.budget.deadline;
  sums = sums;
  answer = answer;
}
