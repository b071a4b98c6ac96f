-- Why a task waits for its next period: update_curr_dl_se, dl_check_constrained_dl, yield_task_dl.
use Rattle.std.specs.Prelude.{ℕ, pos, int_lt, Bool, true, not, ◌&&◌, ◌==◌, if◌then◌else◌}
use Rattle.std.specs.Int.{int_min}
use Rattle.kernel_rules.specs.Clock.{comes_before}
use Rattle.kernel_rules.specs.declared.entity.Entity.{Entity}
use Rattle.timer_tasks.specs.declared.task.DeadlineTask.{DeadlineTask}
use Rattle.timer_tasks.specs.declared.throttle.Throttling.{Throttling}
use Rattle.timer_tasks.specs.declared.throttle.Throttling.TheVariants.{UsedUp, Waits, Yields, Untold}
use Rattle.timer_tasks.specs.Activity.{is_awake_of}

abbrev pub has_budget_of : Entity → Bool
has_budget_of e = int_lt (pos 0) e.budget.runtime

abbrev pub is_constrained_of : Entity → Bool
is_constrained_of e = not (e.parameters.dl_deadline == e.parameters.dl_period)

-- a timer that is started with a budget left: the task waits for its next period, or has yielded
abbrev pub throttling_by : DeadlineTask → ℕ → Throttling
throttling_by t at =
    if has_budget_of t.entity
    then (if is_constrained_of t.entity && comes_before t.entity.budget.deadline at then Waits
    else (if is_awake_of t.activity then Yields else Untold))
    else UsedUp

abbrev pub held_of : Entity → Entity
held_of e = record e { budget = record e.budget { is_throttled = true } }

-- dl_check_constrained_dl
abbrev pub waiting_of : Entity → Entity
waiting_of e = record e { budget = record e.budget { runtime = int_min e.budget.runtime (pos 0); is_throttled = true } }

-- yield_task_dl
abbrev pub yielded_of : Entity → Entity
yielded_of e = record e { budget = record e.budget { is_throttled = true; is_yielded = true } }

abbrev pub held_back_by : Entity → Throttling → Entity
held_back_by e UsedUp = held_of e
held_back_by e Waits = waiting_of e
held_back_by e Yields = yielded_of e
held_back_by e Untold = e
