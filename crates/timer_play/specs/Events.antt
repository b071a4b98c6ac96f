-- What each line of a record makes of its tasks and runqueues.
use Rattle.std.specs.Prelude.{ℕ, Bool, true, false, not, ◌&&◌, nat_lt, if◌then◌else◌, List, Option, Some, None, slice_get}
use Rattle.trace_data.specs.declared.fixed.Stop.{Stop}
use Rattle.trace_data.specs.declared.quantities.Parameters.{Parameters}
use Rattle.timer_record.specs.declared.event.KeptEvent.{KeptEvent}
use Rattle.timer_record.specs.declared.event.KeptEvent.TheVariants.{Idles, Woken, OtherWoken, Migrated, Ran, Switched, ZeroLagStarted, ReplenishStarted, Cancelled, ZeroLagFired, ReplenishFired}
use Rattle.timer_record.specs.declared.event.KeptLine.{KeptLine}
use Rattle.timer_record.specs.declared.lines.TaskLines.{TaskLines}
use Rattle.timer_record.specs.Votes.{winner_of}
use Rattle.timer_tasks.specs.declared.observation.TimerKind.TheVariants.{Block, Replenish}
use Rattle.timer_tasks.specs.declared.observation.Observation.{Observation}
use Rattle.timer_tasks.specs.declared.server.ServerState.{ServerState}
use Rattle.timer_tasks.specs.declared.server.ServerState.TheVariants.{Active, Stopping}
use Rattle.timer_tasks.specs.declared.task.DeadlineTask.{DeadlineTask}
use Rattle.timer_tasks.specs.Observations.{answer_by, block_answer_of, block_moments_of, replenish_moments_of}
use Rattle.timer_tasks.specs.Server.{after_cancel_of, after_fire_of, after_idle_of, after_lag_of, after_wake_of}
use Rattle.timer_tasks.specs.Tasks.{lag_fired_of, lag_started_of, refilled_of, replenished_by, stays_ready_of}
use Rattle.timer_play.specs.declared.machine.Owner.{Owner}
use Rattle.timer_play.specs.declared.machine.Owner.TheVariants as owners
use Rattle.timer_play.specs.Kernels.{picks_of, stops_with_timer_of}
use Rattle.timer_play.specs.Places.{observation_of, sums_of}
use Rattle.timer_play.specs.States.{State, is_number, noted, owned, owner_at, replaced, runqueue_for, served_in, server_at}
use Rattle.timer_play.specs.Turns.{at_charge_of, at_hold_of, at_move_of, at_open_of, at_refill_of, at_run_of, at_sight_of, at_switch_of, at_wake_of}

-- a task becomes what a rule makes of it
abbrev pub edited_by : Option DeadlineTask → (DeadlineTask → DeadlineTask) → ℕ → State → State
edited_by (Some t) f n m = replaced n (f t) m
edited_by None f n m = m

unfoldable pub edited : (DeadlineTask → DeadlineTask) → ℕ → State → State
edited f n m = edited_by (slice_get m.tasks n) f n m

-- a fair server comes to what a rule makes of its state
abbrev pub turned : (ServerState → ServerState) → ℕ → State → State
turned f cpu m = served_in (f (server_at cpu m)) cpu m

-- where fair servers reserve something
unfoldable pub served_where_any : ServerState → ℕ → State → State
served_where_any s cpu m = if nat_lt 0 m.terms.setup.server_bw then served_in s cpu m else m

abbrev pub given_by : Option TaskLines → Option Parameters
given_by (Some x) = x.given
given_by None = None

-- a line shows a task in the class
unfoldable pub sighted_in : List TaskLines → ℕ → ℕ → State → State
sighted_in xs n cpu m = edited (λ t. at_sight_of t (given_by (slice_get xs n)) cpu) n m

-- sched_wakeup
unfoldable pub woken_in : ℕ → ℕ → ℕ → State → State
woken_in n cpu clock m = edited (λ t. at_wake_of m.terms t cpu clock) n m

-- sched_stat_runtime
unfoldable pub charged_in : KeptLine → ℕ → ℕ → State → State
charged_in k n nanos m = edited (λ t. at_charge_of m.terms.setup.law t k.at nanos (runqueue_for t.cpu m)) n m

-- extra_bw may not be known at this line
unfoldable pub opened_in : ℕ → ℕ → State → State
opened_in line n m = edited (λ t. at_open_of m.terms t line) n m

abbrev pub ran_in : KeptLine → ℕ → ℕ → State → State
ran_in k n nanos m = charged_in k n nanos (opened_in k.line n (edited at_refill_of n (edited (λ t. at_run_of t k) n m)))

-- sched_switch away: a block is observed, and then the task is switched out
abbrev pub blocks_of : DeadlineTask → Bool → Stop → Bool
blocks_of t deadline stop = deadline && t.entity.is_in_class && not (stays_ready_of stop)

abbrev pub block_observation : KeptLine → ℕ → DeadlineTask → Stop → State → Observation
block_observation k n t stop m =
    let moments = block_moments_of t k.at in
    observation_of k n t Block moments (sums_of (slice_get m.runqueues t.cpu) m.taken) (block_answer_of t stop moments.difference m.terms.within)

abbrev pub block_seen_by : Option DeadlineTask → KeptLine → ℕ → Bool → Stop → State → State
block_seen_by (Some t) k n deadline stop m = if blocks_of t deadline stop then noted (block_observation k n t stop m) m else m
block_seen_by None k n deadline stop m = m

unfoldable pub block_seen : KeptLine → ℕ → Bool → Stop → State → State
block_seen k n deadline stop m = block_seen_by (slice_get m.tasks n) k n deadline stop m

abbrev pub sighted_if : Bool → List TaskLines → ℕ → ℕ → State → State
sighted_if deadline xs n cpu m = if deadline then sighted_in xs n cpu m else m

abbrev pub switched_in : List TaskLines → KeptLine → ℕ → Bool → Stop → State → State
switched_in xs k n deadline stop m =
    edited (λ t. at_switch_of t k deadline stop) n (block_seen k n deadline stop (edited refilled_of n (sighted_if deadline xs n k.cpu m)))

abbrev pub switched_by : Option ℕ → List TaskLines → KeptLine → Bool → Stop → State → State
switched_by (Some n) xs k deadline stop m = switched_in xs k n deadline stop m
switched_by None xs k deadline stop m = m

-- a CPU comes to idle: its fair server is picked, and has no task
unfoldable pub idled_in : Bool → ℕ → State → State
idled_in idles cpu m = if idles then turned after_idle_of cpu m else m

-- the running task whose own 0-lag timer this is
abbrev pub owns_by : Option TaskLines → ℕ → Bool
owns_by (Some x) timer = is_number (winner_of x.zero_lag_timer) timer
owns_by None timer = false

abbrev pub own_timer_of : List TaskLines → ℕ → Option ℕ → Option ℕ
own_timer_of xs timer (Some n) = if owns_by (slice_get xs n) timer then Some n else None
own_timer_of xs timer None = None

-- inactive_task_timer is started; one that is not the running task's own is a fair server's that stops
unfoldable pub lag_started_by : Option ℕ → KeptLine → ℕ → ℕ → State → State
lag_started_by (Some n) k timer expires m = edited (λ t. lag_started_of t k.at expires) n (owned timer (owners.Task n) m)
lag_started_by None k timer expires m = served_where_any Stopping k.cpu (owned timer (owners.Server k.cpu) m)

-- it fires
unfoldable pub lag_fired_by : Owner → State → State
lag_fired_by owners.Nobody m = m
lag_fired_by (owners.Task n) m = edited lag_fired_of n m
lag_fired_by (owners.Server cpu) m = turned after_lag_of cpu m

-- dl_task_timer is started: it is observed as the task is then
abbrev pub hold_observation : KeptLine → ℕ → DeadlineTask → ℕ → State → Observation
hold_observation k n t expires m =
    let moments = replenish_moments_of t k.at expires in
    observation_of k n t Replenish moments (sums_of (slice_get m.runqueues t.cpu) m.taken) (answer_by t.knowledge moments.difference m.terms.within)

abbrev pub hold_seen_by : Option DeadlineTask → KeptLine → ℕ → ℕ → State → State
hold_seen_by (Some t) k n expires m = if t.entity.is_in_class then noted (hold_observation k n t expires m) m else m
hold_seen_by None k n expires m = m

unfoldable pub hold_seen : KeptLine → ℕ → ℕ → State → State
hold_seen k n expires m = hold_seen_by (slice_get m.tasks n) k n expires m

unfoldable pub replenish_started_by : Owner → KeptLine → ℕ → State → State
replenish_started_by owners.Nobody k expires m = m
replenish_started_by (owners.Task n) k expires m = hold_seen k n expires (edited (λ t. at_hold_of t k.at) n m)
replenish_started_by (owners.Server cpu) k expires m = served_where_any Active cpu m

-- it fires; a fair server on an idle CPU is picked at once
abbrev pub after_fire_at : Bool → ServerState → ServerState
after_fire_at picked s = if picked then after_idle_of (after_fire_of s) else after_fire_of s

unfoldable pub replenish_fired_by : Owner → KeptLine → State → State
replenish_fired_by owners.Nobody k m = m
replenish_fired_by (owners.Task n) k m = edited (λ t. replenished_by t k.at) n m
replenish_fired_by (owners.Server cpu) k m = turned (after_fire_at (picks_of m.terms.setup.servers && k.is_idle)) cpu m

-- a timer is cancelled
unfoldable pub cancelled_by : Owner → State → State
cancelled_by owners.Nobody m = m
cancelled_by (owners.Task n) m = m
cancelled_by (owners.Server cpu) m = if stops_with_timer_of m.terms.setup.servers then turned after_cancel_of cpu m else m

abbrev pub event_in : KeptEvent → List TaskLines → KeptLine → State → State
event_in Idles xs k m = m
event_in (Woken n cpu clock) xs k m = woken_in n cpu clock (sighted_in xs n cpu m)
event_in (OtherWoken cpu) xs k m = served_where_any (after_wake_of (server_at cpu m)) cpu m
event_in (Migrated n cpu) xs k m = edited (λ t. at_move_of t cpu) n (sighted_in xs n cpu m)
event_in (Ran n nanos) xs k m = ran_in k n nanos m
event_in (Switched n deadline stop idle) xs k m = switched_by n xs k deadline stop (idled_in (deadline && idle) k.cpu m)
event_in (ZeroLagStarted timer n expires) xs k m = lag_started_by (own_timer_of xs timer n) k timer expires m
event_in (ReplenishStarted timer expires) xs k m = replenish_started_by (owner_at timer m) k expires m
event_in (Cancelled timer) xs k m = cancelled_by (owner_at timer m) m
event_in (ZeroLagFired timer) xs k m = lag_fired_by (owner_at timer m) m
event_in (ReplenishFired timer) xs k m = replenish_fired_by (owner_at timer m) k m

abbrev pub is_of_timer_by : KeptEvent → Bool
is_of_timer_by (ZeroLagStarted timer n expires) = true
is_of_timer_by (ReplenishStarted timer expires) = true
is_of_timer_by (ZeroLagFired timer) = true
is_of_timer_by (ReplenishFired timer) = true
is_of_timer_by _ = false

-- a line: where fair servers stop at a pick, any line of an idle CPU but a timer's tells of one
unfoldable pub step_in : List TaskLines → KeptLine → State → State
step_in xs k m = event_in k.event xs k (idled_in (picks_of m.terms.setup.servers && k.is_idle && not (is_of_timer_by k.event)) k.cpu m)
