-- What becomes of a task at a line that is about it.
use Rattle.std.specs.Prelude.{ℕ, nat_le, Bool, false, not, ◌&&◌, ◌||◌, ◌==◌, if◌then◌else◌, Option, Some, None, is_some, unwrap_or}
use Rattle.trace_data.specs.declared.fixed.Stop.{Stop}
use Rattle.trace_data.specs.declared.quantities.Parameters.{Parameters}
use Rattle.kernel_rules.specs.Budget.{timer_is_ahead}
use Rattle.kernel_rules.specs.Clock.{contains_bits}
use Rattle.kernel_rules.specs.declared.charge.ChargeLaw.{ChargeLaw}
use Rattle.kernel_rules.specs.declared.charge.ChargedRunqueue.{ChargedRunqueue}
use Rattle.kernel_rules.specs.declared.flags.TheConstants.{RECLAIM}
use Rattle.timer_record.specs.declared.event.KeptLine.{KeptLine}
use Rattle.timer_tasks.specs.declared.activity.Knowledge.{Knowledge}
use Rattle.timer_tasks.specs.declared.activity.Knowledge.TheVariants.{Known, Unknown}
use Rattle.timer_tasks.specs.declared.task.DeadlineTask.{DeadlineTask}
use Rattle.timer_tasks.specs.declared.wake.Waking.{Waking}
use Rattle.timer_tasks.specs.Activity.{is_awake_of}
use Rattle.timer_tasks.specs.Notes.{sighted_of}
use Rattle.timer_tasks.specs.Tasks.{blocked_of, charged_at_of, moved_of, ran_of, refilled_of, seen_running_of, stays_ready_of, switched_of, throttled_by, woken_by}
use Rattle.timer_tasks.specs.Throttle.{throttling_by}
use Rattle.timer_tasks.specs.Wakes.{is_edge_of, is_tested_of, waking_by}
use Rattle.timer_play.specs.declared.terms.PlayTerms.{PlayTerms}

abbrev pub runs_of : DeadlineTask → Bool
runs_of t = t.entity.is_in_class && is_awake_of t.activity

abbrev pub wakes_of : DeadlineTask → Bool
wakes_of t = t.entity.is_in_class && not (is_awake_of t.activity)

abbrev pub is_edge_at : ChargeLaw → DeadlineTask → Waking → ℕ → Bool
is_edge_at law t w clock = is_tested_of w && is_edge_of law t.entity clock

-- sched_wakeup
unfoldable pub at_wake_of : PlayTerms → DeadlineTask → ℕ → ℕ → DeadlineTask
at_wake_of f t cpu clock =
    let w = waking_by f.setup.law t f.begins clock in
    if wakes_of t then woken_by t cpu clock w (is_edge_at f.setup.law t w clock) else t

-- sched_migrate_task
unfoldable pub at_move_of : DeadlineTask → ℕ → DeadlineTask
at_move_of t cpu = if t.entity.is_in_class && not (t.cpu == cpu) then moved_of t cpu else t

-- a line that shows it in the class: a task that an option gives is admitted at the first
unfoldable pub at_sight_of : DeadlineTask → Option Parameters → ℕ → DeadlineTask
at_sight_of t (Some p) cpu = if t.entity.is_in_class || is_some t.blocked then t else sighted_of t cpu p
at_sight_of t None cpu = t

-- sched_stat_runtime: it runs; a budget that was used up is filled at once; and it is charged
unfoldable pub at_run_of : DeadlineTask → KeptLine → DeadlineTask
at_run_of t k = charged_at_of (seen_running_of t k.cpu) k.at

-- start_dl_timer starts no timer for a next period that has begun
unfoldable pub at_refill_of : DeadlineTask → DeadlineTask
at_refill_of t = if runs_of t && not (timer_is_ahead t.entity (unwrap_or t.exceeded 0)) then refilled_of t else t

-- extra_bw is not known at a line: the kernel changed it there, or before, by no rule of a task
abbrev pub is_open_by : Option ℕ → ℕ → Bool
is_open_by (Some first) line = nat_le first line
is_open_by None line = false

-- what was known is not any more
abbrev pub forgotten : Knowledge → Knowledge
forgotten Known = Unknown
forgotten other = other

-- grub_reclaim reads extra_bw for a task with SCHED_FLAG_RECLAIM: where that is not known, the charge is not
abbrev pub reads_open : PlayTerms → DeadlineTask → ℕ → Bool
reads_open f t line = is_open_by f.open_from line && runs_of t && contains_bits t.entity.parameters.flags RECLAIM

unfoldable pub at_open_of : PlayTerms → DeadlineTask → ℕ → DeadlineTask
at_open_of f t line = if reads_open f t line then record t { knowledge = forgotten t.knowledge } else t

unfoldable pub at_charge_of : ChargeLaw → DeadlineTask → ℕ → ℕ → ChargedRunqueue → DeadlineTask
at_charge_of law t at nanos r = if runs_of t then ran_of law t at nanos r else t

-- sched_switch away
unfoldable pub at_switch_of : DeadlineTask → KeptLine → Bool → Stop → DeadlineTask
at_switch_of t k deadline stop =
    if not (deadline && t.entity.is_in_class) then switched_of t
    else (if stays_ready_of stop then switched_of (seen_running_of t k.cpu) else blocked_of t k.at k.cpu stop)

-- dl_task_timer is started
unfoldable pub at_hold_of : DeadlineTask → ℕ → DeadlineTask
at_hold_of t at = throttled_by t (throttling_by t at)
