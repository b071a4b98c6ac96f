-- What a wake does: enqueue_task_dl with ENQUEUE_WAKEUP, dl_check_constrained_dl, update_dl_entity.
use Rattle.std.specs.Prelude.{ℕ, ◌+◌, ◌-◌, ◌^◌, Bool, true, false, not, ◌&&◌, ◌||◌, ◌==◌, nat_lt, nat_le, min, if◌then◌else◌, Option, Some, None}
use Rattle.kernel_rules.specs.Clock.{plus, less, comes_before}
use Rattle.kernel_rules.specs.Budget.{renewed_of, waking_of, woken_of}
use Rattle.kernel_rules.specs.declared.budget.Wake.{Wake}
use Rattle.kernel_rules.specs.declared.budget.Wake.TheVariants.{Kept, Revised, Renewed}
use Rattle.kernel_rules.specs.declared.charge.ChargeLaw.{ChargeLaw}
use Rattle.kernel_rules.specs.declared.entity.Entity.{Entity}
use Rattle.timer_tasks.specs.declared.activity.Knowledge.{Knowledge}
use Rattle.timer_tasks.specs.declared.activity.Knowledge.TheVariants.{Known, Unknown, Edge}
use Rattle.timer_tasks.specs.declared.task.DeadlineTask.{DeadlineTask}
use Rattle.timer_tasks.specs.declared.wake.TheConstants.{CLOCK_SLACK, DEADLINE_SLACK}
use Rattle.timer_tasks.specs.declared.wake.Waking.{Waking}
use Rattle.timer_tasks.specs.declared.wake.Waking.TheVariants.{StaysThrottled, Waits, Guessed, Sure, Tested}
use Rattle.timer_tasks.specs.Activity.{is_known_of, is_unseen_of}
use Rattle.timer_tasks.specs.Throttle.{is_constrained_of, waiting_of}

-- dl_check_constrained_dl
abbrev pub waits_of : Entity → ℕ → Bool
waits_of e clock =
    is_constrained_of e && comes_before e.budget.deadline clock
    && comes_before clock (plus (less e.budget.deadline e.parameters.dl_deadline) e.parameters.dl_period)

abbrev pub tested_by : ChargeLaw → Entity → ℕ → Waking
tested_by law e clock = if waits_of e clock then Waits else Tested (waking_of law e clock)

-- a new period begins whatever budget and deadline were
abbrev pub is_sure_since : Option ℕ → DeadlineTask → ℕ → ℕ → Bool
is_sure_since (Some blocked) t begins clock = (t.is_lag_over && not (is_constrained_of t.entity)) || nat_lt t.entity.parameters.dl_period (clock - blocked)
is_sure_since None t begins clock = is_unseen_of t.knowledge && nat_le t.entity.parameters.dl_period (clock - begins)

abbrev pub waking_by : ChargeLaw → DeadlineTask → ℕ → ℕ → Waking
waking_by law t begins clock =
    if t.entity.budget.is_throttled then StaysThrottled
    else (if is_known_of t.knowledge then tested_by law t.entity clock
    else (if is_sure_since t.blocked t begins clock then Sure else Guessed))

abbrev pub is_tested_of : Waking → Bool
is_tested_of (Tested w) = true
is_tested_of Waits = true
is_tested_of _ = false

abbrev pub kind_of_wake : Wake → ℕ
kind_of_wake Kept = 0
kind_of_wake Revised = 1
kind_of_wake Renewed = 2

abbrev pub kind_of : Waking → ℕ
kind_of (Tested w) = kind_of_wake w
kind_of Waits = 3
kind_of _ = 4

-- the rules answer otherwise at two clocks
unfoldable pub differs_between_of : ChargeLaw → Entity → ℕ → ℕ → Bool
differs_between_of law e one other = not (kind_of (tested_by law e one) == kind_of (tested_by law e other))

-- so far before or after
abbrev pub differs_within_of : ChargeLaw → Entity → ℕ → ℕ → Bool
differs_within_of law e clock slack =
    differs_between_of law e (clock - slack) clock
    || differs_between_of law e (min (clock + slack) (2 ^ 64 - 1)) clock

-- within a microsecond of the clock, or two where that is as near to the deadline
abbrev pub is_edge_of : ChargeLaw → Entity → ℕ → Bool
is_edge_of law e clock =
    differs_within_of law e clock CLOCK_SLACK
    || (nat_le ((e.budget.deadline - clock) + (clock - e.budget.deadline)) DEADLINE_SLACK && differs_within_of law e clock DEADLINE_SLACK)

abbrev pub awakened_by : Entity → ℕ → Waking → Entity
awakened_by e clock StaysThrottled = e
awakened_by e clock Waits = waiting_of e
awakened_by e clock (Tested w) = woken_of e clock w
awakened_by e clock _ = renewed_of e clock

abbrev pub known_after_by : Knowledge → Waking → Bool → Knowledge
known_after_by k Sure edge = Known
known_after_by k Guessed edge = if is_unseen_of k then Unknown else k
known_after_by k StaysThrottled edge = if is_unseen_of k then Unknown else k
known_after_by k (Tested w) edge = if edge then Edge else k
known_after_by k Waits edge = if edge then Edge else k
