-- The tasks and runqueues of a record before its first line.
use Rattle.std.specs.Prelude.{ℕ, ◌+◌, ◌-◌, ◌^◌, Bool, true, false, not, ◌&&◌, ◌==◌, nat_lt, nat_le, max, min, if◌then◌else◌, List, [], Option, Some, None, is_some, unwrap_or, map, fold, position, slice_get}
use Rattle.std.specs.List.{range_with_len}
use Rattle.trace_data.specs.declared.quantities.Sums.{Sums}
use Rattle.timer_record.specs.declared.lines.AddressLines.{AddressLines}
use Rattle.timer_record.specs.declared.lines.FirstLine.{FirstLine}
use Rattle.timer_record.specs.declared.lines.FirstLine.TheVariants.{Start as WithStart}
use Rattle.timer_record.specs.declared.lines.KeptLines.{KeptLines}
use Rattle.timer_record.specs.declared.lines.TimerLines.{TimerLines}
use Rattle.timer_record.specs.Timers.{is_of_task_by}
use Rattle.timer_record.specs.Votes.{winner_of}
use Rattle.timer_tasks.specs.declared.runqueue.Runqueue.{Runqueue}
use Rattle.timer_tasks.specs.declared.server.ServerState.{ServerState}
use Rattle.timer_tasks.specs.declared.server.ServerState.TheVariants.{Stopped, Active}
use Rattle.timer_tasks.specs.declared.task.DeadlineTask.{DeadlineTask}
use Rattle.timer_tasks.specs.Tasks.{unseen_task}
use Rattle.timer_play.specs.declared.machine.Owner.{Owner}
use Rattle.timer_play.specs.declared.machine.Owner.TheVariants.{Nobody, Task as OfTask, Server}
use Rattle.timer_play.specs.declared.setup.RunqueueSums.{RunqueueSums}
use Rattle.timer_play.specs.declared.setup.RecordSetup.{RecordSetup}
use Rattle.timer_play.specs.declared.setup.RecordStart.{RecordStart}
use Rattle.timer_play.specs.declared.terms.PlayTerms.{PlayTerms}
use Rattle.timer_play.specs.Kernels.{first_extra_of}
use Rattle.timer_play.specs.States.{State, is_number}

abbrev pub task_owner : Option ℕ → Owner
task_owner (Some n) = OfTask n
task_owner None = Nobody

abbrev pub server_owner : Option ℕ → Owner
server_owner (Some n) = Server n
server_owner None = Nobody

-- whose a timer is, by its lines, and by all of its address
abbrev pub first_owner_by : Option AddressLines → TimerLines → Owner
first_owner_by (Some a) x = if is_of_task_by a then task_owner (winner_of x.task) else server_owner (winner_of a.cpu)
first_owner_by None x = Nobody

unfoldable pub first_owner : List AddressLines → TimerLines → Owner
first_owner xs x = first_owner_by (slice_get xs x.address) x

abbrev pub starts_with_start : Option FirstLine → Bool
starts_with_start (Some WithStart) = true
starts_with_start _ = false

-- a fair server whose timer's first line is a start was stopped before
abbrev pub starts_server : ℕ → AddressLines → Bool
starts_server cpu x = not (is_of_task_by x) && is_number (winner_of x.cpu) cpu && starts_with_start x.first

abbrev pub runs_at_first : Bool → ServerState
runs_at_first runs = if runs then Active else Stopped

-- where no note tells the sums, the fair servers alone are in them
abbrev pub untold_runqueue : RecordSetup → ℕ → Bool → Runqueue
untold_runqueue s cpu stopped =
    let runs = nat_lt 0 s.server_bw && not stopped in
    record {
      sums = record { this_bw = s.server_bw; running_bw = if runs then s.server_bw else 0; extra_bw = first_extra_of s cpu };
      server = runs_at_first runs;
      is_told = false;
    }

abbrev pub told_runqueue : RecordSetup → Sums → Runqueue
told_runqueue s sums = record { sums = sums; server = runs_at_first (nat_lt 0 s.server_bw && nat_le s.server_bw sums.running_bw); is_told = true }

-- of the notes of a CPU the last
abbrev pub later_of : ℕ → Option RunqueueSums → RunqueueSums → Option RunqueueSums
later_of cpu found x = if x.cpu == cpu then Some x else found

abbrev pub first_by : Option RunqueueSums → RecordSetup → List AddressLines → ℕ → Runqueue
first_by (Some x) s addresses cpu = told_runqueue s x.sums
first_by None s addresses cpu = untold_runqueue s cpu (is_some (position (starts_server cpu) addresses))

unfoldable pub first_runqueue : RecordSetup → List RunqueueSums → List AddressLines → ℕ → Runqueue
first_runqueue s xs addresses cpu = first_by (fold (later_of cpu) None xs) s addresses cpu

-- up to the greatest CPU of the root domain and of the notes
abbrev pub cpus_of : RecordStart → ℕ
cpus_of x = min (max (fold max 0 x.domain.items) (fold (λ (most : ℕ) (y : RunqueueSums). max most y.cpu) 0 x.sums.items) + 1) (2 ^ 32 - 1)

unfoldable pub opened : PlayTerms → List DeadlineTask → List Runqueue → List Owner → State
opened f ts rs os = record { terms = f; tasks = ts; runqueues = rs; taken = 0; owners = os; seen = [] }

unfoldable pub first_state : RecordSetup → RecordStart → KeptLines → ℕ → State
first_state s x lines within =
    opened (record { setup = s; begins = unwrap_or lines.begins 0; within = within; open_from = x.open_from }) (map (λ y. unseen_task) lines.tasks.items)
    (map (first_runqueue s x.sums.items lines.addresses.items) (range_with_len 0 (cpus_of x)))
    (map (first_owner lines.addresses.items) lines.timers.items)
