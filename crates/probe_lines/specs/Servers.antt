-- Lines of fair servers: enqueue_dl_entity, pick_task_dl, dl_server_stop.
use Rattle.std.specs.Prelude.{ℕ, ℤ, Bool, true, false, not, ◌&&◌, ◌||◌, ◌==◌, if◌then◌else◌, Option, Some, None}
use Rattle.trace_data.specs.declared.quantities.Sums.{Sums}
use Rattle.trace_data.specs.declared.probe.ServerStarted.{ServerStarted}
use Rattle.trace_data.specs.declared.probe.Picked.{Picked}
use Rattle.trace_data.specs.declared.probe.ServerStopped.{ServerStopped}
use Rattle.kernel_rules.specs.declared.flags.TheConstants.{WAKEUP}
use Rattle.kernel_rules.specs.Clock.{contains_bits}
use Rattle.kernel_rules.specs.Reservation.{reserved_of}
use Rattle.kernel_rules.specs.Activity.{contending_of, contended_of, contending_change_of}
use Rattle.probe_findings.specs.declared.words.ProbedLine.{ProbedLine}
use Rattle.probe_run.specs.declared.actor.Actor.{Actor}
use Rattle.probe_run.specs.declared.rules.PlayRules.{PlayRules}
use Rattle.probe_run.specs.State.{State, actor_at, keep_at, server_number, with_server, server_parameters_of}
use Rattle.probe_run.specs.Sums.{change, block_in}
use Rattle.probe_run.specs.Counting.{where_it_holds}
use Rattle.probe_run.specs.Handlers.{handler_runs, dequeuing_while}
use Rattle.probe_run.specs.Begin.{sums_read}
use Rattle.probe_values.specs.Shown.{sums_agree, contending_agrees, contending_shown}

-- a server's reservation is its line's
abbrev pub serving_by : Actor → ℕ → ℕ → ℕ → Actor
serving_by a cpu runtime period = record a { entity = reserved_of a.entity (server_parameters_of runtime period); cpu = cpu }

abbrev pub started_next : State → ProbedLine → ℕ → Actor → ServerStarted → State
started_next s place n a l =
    let shown = contending_shown a l.is_non_contending in
    let how = contending_of shown.entity in
    change (keep_at (sums_read s place l.cpu l.sums) n (record shown { entity = contended_of shown.entity how; is_stopped = false })) l.cpu
    (contending_change_of shown.entity 0 how)

abbrev pub started_with : State → ProbedLine → ℕ → ServerStarted → Option State
started_with s place n l =
    let a = serving_by (actor_at s n) l.cpu l.dl_runtime l.dl_period in
    where_it_holds (sums_agree s l.cpu l.sums && contending_agrees a l.is_non_contending) (started_next s place n a l)

abbrev pub started_by : State → ProbedLine → ServerStarted → Option State
started_by s place l =
    if l.is_server && contains_bits l.flags WAKEUP then started_with (with_server s l.cpu) place (server_number s l.cpu) l else Some s

-- a server that stops: its budget is an input
abbrev pub stopping_of : Actor → ℤ → ℕ → Actor
stopping_of a runtime deadline = record a {
  entity = record a.entity { budget = record a.entity.budget { runtime = runtime; deadline = deadline } };
  is_stopped = true;
}

abbrev pub stopped_next : PlayRules → State → ProbedLine → ℕ → Actor → ServerStopped → State
stopped_next t s place n a l =
    let shown = stopping_of (contending_shown a l.is_non_contending) l.runtime l.deadline in
    let done = dequeuing_while (handler_runs s n) shown.entity WAKEUP 0 l.clock in
    block_in t (change (keep_at (sums_read s place l.cpu l.sums) n (record shown { entity = done.entity })) l.cpu done.change) place n l.cpu done.change done.block

abbrev pub stopped_with : PlayRules → State → ProbedLine → ℕ → ServerStopped → Option State
stopped_with t s place n l =
    let a = serving_by (actor_at s n) l.cpu l.dl_runtime l.dl_period in
    where_it_holds (sums_agree s l.cpu l.sums && contending_agrees a l.is_non_contending) (stopped_next t s place n a l)

abbrev pub stopped_by : PlayRules → State → ProbedLine → ServerStopped → Option State
stopped_by t s place l = stopped_with t (with_server s l.cpu) place (server_number s l.cpu) l

-- pick_task_dl: a server is first, and has no task
abbrev pub stops_where_picked : Picked → Bool
stops_where_picked l = l.is_active && not l.is_throttled && (l.fair_tasks == 0) && (l.earliest == l.deadline)

abbrev pub stop_of : Picked → ServerStopped
stop_of l = record {
  cpu = l.cpu;
  clock = l.clock;
  is_active = l.is_active;
  runtime = l.runtime;
  deadline = l.deadline;
  dl_runtime = l.dl_runtime;
  dl_period = l.dl_period;
  is_non_contending = l.is_non_contending;
  sums = l.sums;
}

abbrev pub picked_by : PlayRules → State → ProbedLine → Picked → Option State
picked_by t s place l = if stops_where_picked l then stopped_by t s place (stop_of l) else Some s

-- dl_server_stop, wherever from: where it was stopped before, or is not active, it does nothing
abbrev pub was_stopped : State → Option ℕ → Bool
was_stopped s None = false
was_stopped s (Some n) = (actor_at s n).is_stopped

abbrev pub does_nothing : State → ServerStopped → Bool
does_nothing s l = not l.is_active || was_stopped s (s.servers l.cpu)
