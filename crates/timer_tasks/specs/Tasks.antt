-- What a line of a record does to a task.
use Rattle.std.specs.Prelude.{ℕ, Bool, true, false, not, ◌&&◌, ◌||◌, if◌then◌else◌, Some, None, is_some, unwrap_or}
use Rattle.trace_data.specs.declared.fixed.Stop.{Stop}
use Rattle.trace_data.specs.declared.fixed.Stop.TheVariants.{Ready, Ends}
use Rattle.kernel_rules.specs.Reservation.{fresh_of}
use Rattle.kernel_rules.specs.Charge.{cost_of}
use Rattle.kernel_rules.specs.Budget.{charged_of, replenished_of}
use Rattle.kernel_rules.specs.declared.charge.ChargeLaw.{ChargeLaw}
use Rattle.kernel_rules.specs.declared.charge.ChargedRunqueue.{ChargedRunqueue}
use Rattle.timer_tasks.specs.declared.activity.Activity.{Activity}
use Rattle.timer_tasks.specs.declared.activity.Activity.TheVariants.{Contending, NonContending, Inactive, Away}
use Rattle.timer_tasks.specs.declared.activity.Knowledge.{Knowledge}
use Rattle.timer_tasks.specs.declared.activity.Knowledge.TheVariants.{Unseen, Unknown, Gap}
use Rattle.timer_tasks.specs.declared.task.DeadlineTask.{DeadlineTask}
use Rattle.timer_tasks.specs.declared.throttle.Throttling.{Throttling}
use Rattle.timer_tasks.specs.declared.wake.Waking.{Waking}
use Rattle.timer_tasks.specs.Activity.{is_awake_of, is_unseen_of}
use Rattle.timer_tasks.specs.Throttle.{has_budget_of, held_of, held_back_by}
use Rattle.timer_tasks.specs.Wakes.{awakened_by, known_after_by}

unfoldable pub unseen_task : DeadlineTask
unseen_task = record { entity = fresh_of false; cpu = 0; activity = Away; is_admitted = false; knowledge = Unseen; armed = None; exceeded = None; charged = None; blocked = None; is_lag_over = false }

-- enqueue_task_dl with ENQUEUE_WAKEUP
abbrev pub woken_by : DeadlineTask → ℕ → ℕ → Waking → Bool → DeadlineTask
woken_by t cpu clock w edge = record t { entity = awakened_by t.entity clock w; cpu = cpu; activity = Contending; knowledge = known_after_by t.knowledge w edge }

-- a ready task's bandwidth goes along; a blocked one is off the sums until it wakes (migrate_task_rq_dl)
abbrev pub activity_after_move : Activity → Activity
activity_after_move Contending = Contending
activity_after_move _ = Away

abbrev pub moved_of : DeadlineTask → ℕ → DeadlineTask
moved_of t cpu = record t { cpu = cpu; activity = activity_after_move t.activity }

-- a task that runs, and that no line has shown before
abbrev pub seen_running_of : DeadlineTask → ℕ → DeadlineTask
seen_running_of t cpu = if t.entity.is_in_class && is_unseen_of t.knowledge then record t { cpu = cpu; activity = Contending; knowledge = Unknown } else t

-- update_curr_dl_se: the budget is used up, and start_dl_timer started no timer, so that it is filled at once
abbrev pub refills_of : DeadlineTask → Bool
refills_of t = is_some t.exceeded && t.entity.budget.is_throttled && not (has_budget_of t.entity)

abbrev pub refilled_of : DeadlineTask → DeadlineTask
refilled_of t = record t { entity = if refills_of t then replenished_of t.entity (unwrap_or t.exceeded 0) else t.entity; exceeded = None }

-- update_curr_dl_se: at 0 or below it is throttled
abbrev pub ran_of : ChargeLaw → DeadlineTask → ℕ → ℕ → ChargedRunqueue → DeadlineTask
ran_of law t at nanos r =
    let e = charged_of t.entity (cost_of law t.entity r nanos) in
    if has_budget_of e then record t { entity = e } else record t { entity = held_of e; exceeded = Some at }

abbrev pub charged_at_of : DeadlineTask → ℕ → DeadlineTask
charged_at_of t at = record t { charged = Some at }

-- task_non_contending arms inactive_timer
abbrev pub lag_started_of : DeadlineTask → ℕ → ℕ → DeadlineTask
lag_started_of t at expires = if t.entity.is_in_class then record t { armed = Some (record { expires = expires; at = at }) } else record t { is_admitted = true }

-- inactive_task_timer, of a task of the class
abbrev pub lag_over_of : Activity → DeadlineTask → DeadlineTask
lag_over_of NonContending t = if t.entity.is_dead then record t { activity = Away; is_admitted = false; is_lag_over = true } else record t { activity = Inactive; is_lag_over = true }
lag_over_of _ t = t

-- inactive_task_timer
abbrev pub lag_fired_of : DeadlineTask → DeadlineTask
lag_fired_of t = if t.entity.is_in_class then lag_over_of t.activity t else record t { is_admitted = false }

-- its dl_task_timer is started
abbrev pub throttled_by : DeadlineTask → Throttling → DeadlineTask
throttled_by t why = record t { entity = held_back_by t.entity why; exceeded = None }

-- dl_task_timer, replenish_dl_entity
abbrev pub replenished_by : DeadlineTask → ℕ → DeadlineTask
replenished_by t at = record t { entity = if t.entity.budget.is_throttled then replenished_of t.entity at else t.entity }

abbrev pub switched_of : DeadlineTask → DeadlineTask
switched_of t = record t { armed = None }

abbrev pub ends_of : Stop → Bool
ends_of Ends = true
ends_of _ = false

abbrev pub stays_ready_of : Stop → Bool
stays_ready_of Ready = true
stays_ready_of _ = false

-- a task that is blocked already did something between, which no line shows
abbrev pub known_after_block_of : Knowledge → Activity → Knowledge
known_after_block_of k a = if is_unseen_of k then Unknown else (if is_awake_of a then k else Gap)

-- task_non_contending, as the kernel's own timer tells: the bandwidth runs on where inactive_timer was armed
abbrev pub activity_after_block : Bool → Bool → Activity
activity_after_block armed ended = if armed then NonContending else (if ended then Away else Inactive)

abbrev pub blocked_of : DeadlineTask → ℕ → ℕ → Stop → DeadlineTask
blocked_of t at cpu stop = record t {
  entity = record t.entity { is_dead = ends_of stop };
  cpu = if is_unseen_of t.knowledge then cpu else t.cpu;
  activity = activity_after_block (is_some t.armed) (ends_of stop);
  is_admitted = is_some t.armed || not (ends_of stop);
  knowledge = known_after_block_of t.knowledge t.activity;
  armed = None;
  blocked = Some at;
  is_lag_over = not (is_some t.armed) && (is_unseen_of t.knowledge || is_awake_of t.activity);
}
