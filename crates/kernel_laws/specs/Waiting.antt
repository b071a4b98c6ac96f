-- A throttled task waits for its replenishment timer, function by function; and which charge throttles a task.
use Rattle.std.specs.Prelude.{ℕ, pos, int_le, ◌≡◌, Bool, true, false, None}
use Rattle.kernel_rules.specs.declared.entity.Entity.{Entity}
use Rattle.kernel_rules.specs.declared.charge.ChargeLaw.{ChargeLaw}
use Rattle.kernel_rules.specs.declared.flags.TheConstants.{WAKEUP, REPLENISH}
use Rattle.kernel_rules.specs.Clock.{contains_bits}
use Rattle.trace_data.specs.declared.probe.Enqueued.{Enqueued}
use Rattle.kernel_rules.specs.Spend.{spending_of}
use Rattle.kernel_rules.specs.Enqueue.{enqueuing_of}
use Rattle.kernel_rules.specs.Dequeue.{dequeuing_of}
use Rattle.kernel_rules.specs.Timer.{replenish_fired_of}

-- throttled: its replenishment timer is armed
abbrev pub IsWaited : Entity → Type 0
IsWaited e = e.budget.is_throttled ≡ true → e.has_deadline_timer ≡ true

-- update_curr_dl_se arms the timer, or enqueues the task again at once
abbrev pub ChargeWaits : Entity → ℕ → Bool → Type 0
ChargeWaits e clock has_run =
    IsWaited e → (spending_of e clock has_run).is_enqueued_again ≡ false → IsWaited (spending_of e clock has_run).entity

-- enqueue_task_dl, whoever boosts the task
abbrev pub EnqueueWaits : ChargeLaw → Entity → Enqueued → Type 0
EnqueueWaits law e l = IsWaited e → IsWaited (enqueuing_of law e l).entity

-- the enqueue with ENQUEUE_REPLENISH, behind a charge or a timer: the task is not throttled
abbrev pub ReturnWaits : ChargeLaw → Entity → Enqueued → Type 0
ReturnWaits law e l =
    contains_bits l.flags REPLENISH ≡ true → contains_bits l.flags WAKEUP ≡ false → IsWaited (enqueuing_of law e l).entity

-- dequeue_task_dl
abbrev pub DequeueWaits : Entity → ℕ → ℕ → ℕ → Type 0
DequeueWaits e flags on_rq clock = IsWaited e → IsWaited (dequeuing_of e flags on_rq clock).entity

-- dl_task_timer of a blocked task of the class, whom nobody boosts: of others a stock kernel leaves it throttled without a timer
abbrev pub TimerWaits : Entity → Type 0
TimerWaits e = e.is_in_class ≡ true → e.donor ≡ None → e.is_queued ≡ false → IsWaited (replenish_fired_of e)

-- a charge that uses the budget up throttles the task
abbrev pub ChargeThrottles : Entity → ℕ → Type 0
ChargeThrottles e clock =
    int_le e.budget.runtime (pos 0) ≡ true → (spending_of e clock true).entity.budget.is_throttled ≡ true
