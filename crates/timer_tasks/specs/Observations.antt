-- What the rules give beside what the kernel did: task_non_contending and start_dl_timer.
use Rattle.std.specs.Prelude.{ℕ, ℤ, pos, unsigned_abs, nat_le, nat_lt, ◌&&◌, ◌||◌, if◌then◌else◌, Option, Some, None, unwrap_or}
use Rattle.std.specs.Int.{w64, cast_unsigned, int_max}
use Rattle.trace_data.specs.declared.fixed.Stop.{Stop}
use Rattle.kernel_rules.specs.Activity.{zero_lag_of}
use Rattle.kernel_rules.specs.Clock.{plus, less, signed}
use Rattle.timer_tasks.specs.declared.activity.Knowledge.{Knowledge}
use Rattle.timer_tasks.specs.declared.activity.Knowledge.TheVariants.{Known, Edge, Gap}
use Rattle.timer_tasks.specs.declared.observation.ObservedAnswer.{ObservedAnswer}
use Rattle.timer_tasks.specs.declared.observation.ObservedAnswer.TheVariants as answers
use Rattle.timer_tasks.specs.declared.observation.Moments.{Moments}
use Rattle.timer_tasks.specs.declared.observation.TheConstants.{LATE}
use Rattle.timer_tasks.specs.declared.task.StartedTimer.{StartedTimer}
use Rattle.timer_tasks.specs.declared.task.DeadlineTask.{DeadlineTask}
use Rattle.timer_tasks.specs.Activity.{is_awake_of, is_unseen_of}
use Rattle.timer_tasks.specs.Tasks.{ends_of}

abbrev pub distance_of : ℕ → ℕ → ℤ
distance_of a b = signed (less a b)

-- the 0-lag time: the deadline less the time in which the reservation gives the budget
abbrev pub zero_lag_moment_of : DeadlineTask → ℕ
zero_lag_moment_of t = cast_unsigned w64 (zero_lag_of t.entity 0)

-- dl_next_period
abbrev pub next_period_of : DeadlineTask → ℕ
next_period_of t = plus (less t.entity.budget.deadline t.entity.parameters.dl_deadline) t.entity.parameters.dl_period

-- a task whose budget and deadline are known is compared, whatever comes of it
abbrev pub answer_by : Knowledge → ℤ → ℕ → ObservedAnswer
answer_by Known difference within = if nat_le (unsigned_abs difference) within then answers.Agrees else answers.Differs
answer_by Edge difference within = answers.Edge
answer_by Gap difference within = answers.Gap
answer_by _ difference within = answers.Unknown

-- the kernel's timer is relative, and its base is read as much later than the charge as its line is
abbrev pub lag_moments_by : Option StartedTimer → ℕ → ℕ → Moments
lag_moments_by (Some a) z charged =
    let predicted = plus z (less a.at charged) in
    record { predicted = predicted; kernel = Some a.expires; difference = distance_of predicted a.expires }
lag_moments_by None z charged = record { predicted = z; kernel = None; difference = int_max (distance_of z charged) (pos 0) }

abbrev pub block_moments_of : DeadlineTask → ℕ → Moments
block_moments_of t at = lag_moments_by t.armed (zero_lag_moment_of t) (unwrap_or t.charged at)

abbrev pub late_by : DeadlineTask → ℕ → ℕ
late_by t at = if is_awake_of t.activity && nat_lt (less at (unwrap_or t.charged at)) LATE then less at (unwrap_or t.charged at) else 0

abbrev pub replenish_moments_of : DeadlineTask → ℕ → ℕ → Moments
replenish_moments_of t at expires =
    let predicted = plus (next_period_of t) (late_by t at) in
    record { predicted = predicted; kernel = Some expires; difference = distance_of predicted expires }

-- each block is compared, but an end and that of a task of which lines are missing
abbrev pub block_answer_of : DeadlineTask → Stop → ℤ → ℕ → ObservedAnswer
block_answer_of t stop difference within =
    if ends_of stop then answers.End
    else (if is_unseen_of t.knowledge || is_awake_of t.activity then answer_by t.knowledge difference within
    else answers.Gap)
