-- A throttled task has its timer armed.
use Rattle.std.proofs.Common.{◌≡◌, ℕ, Bool, true, false, not, ◌&&◌, ◌||◌, if◌then◌else◌, is_none, refl}
use Rattle.kernel_rules.specs.declared.entity.Entity.{Entity}
use Rattle.kernel_rules.specs.declared.charge.ChargeLaw.{ChargeLaw}
use Rattle.kernel_rules.specs.declared.budget.Wake.TheVariants.{Kept, Revised, Renewed}
use Rattle.kernel_rules.specs.declared.activity.Block.{Block}
use Rattle.kernel_rules.specs.declared.activity.Block.TheVariants.{Unreserved, ZeroLagTimer, Past}
use Rattle.kernel_rules.specs.declared.activity.Contention.{Contention}
use Rattle.kernel_rules.specs.declared.activity.Contention.TheVariants.{Unreserved as WasUnreserved, StillRuns, RunsAgain}
use Rattle.kernel_rules.specs.declared.sums.SumsChange.{SumsChange}
use Rattle.kernel_rules.specs.declared.flags.TheConstants.{WAKEUP, REPLENISH}
use Rattle.kernel_rules.specs.Clock.{contains_bits}
use Rattle.kernel_rules.specs.Reservation.{cleared_of}
use Rattle.kernel_rules.specs.Budget.{renewed_of, revised_of, replenished_of, replenished_blocked_of, timer_is_ahead}
use Rattle.kernel_rules.specs.Activity.{contended_of, blocked_of, ends_of}
use Rattle.trace_data.specs.declared.probe.Enqueued.{Enqueued}
use Rattle.kernel_rules.specs.declared.runs.Spent.{Spent}
use Rattle.kernel_rules.specs.declared.runs.Spent.TheVariants.{RunsOn, Throttled, Yielded}
use Rattle.kernel_rules.specs.declared.enqueues.Boost.{Boost}
use Rattle.kernel_rules.specs.declared.enqueues.Boost.TheVariants.{Ordinary, Boosted, Ends}
use Rattle.kernel_rules.specs.declared.enqueues.Refill.{Refill}
use Rattle.kernel_rules.specs.declared.enqueues.Refill.TheVariants.{Waits, Stays as RefillStays, Wakes, Replenishes, Restarts}
use Rattle.kernel_rules.specs.Spend.{is_spent, throttled_of, throttling_of, spending_by, spending_of}
use Rattle.kernel_rules.specs.Enqueue.{enqueuing_of, enqueuing_by, boosting_of, placed_of, constrained_of, waking_up_of, refilling_of, refilled_of}
use Rattle.kernel_rules.specs.Dequeue.{dequeuing_of, off_of, taken_of, sleeping_of}
use Rattle.kernel_rules.specs.Timer.{replenish_fired_of}
use Rattle.kernel_laws.specs.Waiting.{IsWaited, ChargeWaits, EnqueueWaits, ReturnWaits, DequeueWaits, TimerWaits, ChargeThrottles}

no : (b : Bool) → false ≡ true → b ≡ true
no b h = cc

armed : (b : Bool) → (b || true) ≡ true
armed true = refl
armed false = refl

nor : (b : Bool) → true ≡ false → b ≡ true
nor b h = cc

throttle_by : (e : Entity) (clock : ℕ) (spent : Spent) (waits : Bool) → (is_none e.donor && timer_is_ahead e clock) ≡ waits → not waits ≡ false
    → IsWaited (throttling_of e clock spent).entity
unfolding throttled_of
throttle_by e clock spent true w again = rw w (λ h. armed e.has_deadline_timer)
throttle_by e clock spent false w again = λ h. nor _ again

throttle_waits : (e : Entity) (clock : ℕ) (spent : Spent) → (throttling_of e clock spent).is_enqueued_again ≡ false → IsWaited (throttling_of e clock spent).entity
throttle_waits e clock spent again = throttle_by e clock spent (is_none e.donor && timer_is_ahead e clock) refl again

spend_waits : (e : Entity) (clock : ℕ) (spent : Spent) → IsWaited e → (spending_by e clock spent).is_enqueued_again ≡ false → IsWaited (spending_by e clock spent).entity
spend_waits e clock RunsOn w again = w
spend_waits e clock Throttled w again = throttle_waits e clock Throttled again
spend_waits e clock Yielded w again = throttle_waits e clock Yielded again

pub charge_waits : (e : Entity) (clock : ℕ) (has_run : Bool) → ChargeWaits e clock has_run
unfolding spending_of
charge_waits e clock has_run w again = spend_waits e clock (is_spent e has_run) w again

pub charge_throttles : (e : Entity) (clock : ℕ) → ChargeThrottles e clock
unfolding spending_of is_spent throttled_of
charge_throttles e clock h = rw h refl

refill_waits : (e : Entity) (clock : ℕ) (r : Refill) → IsWaited e → IsWaited (refilled_of e clock r)
unfolding refilled_of renewed_of revised_of replenished_of
refill_waits e clock Waits w = w
refill_waits e clock RefillStays w = w
refill_waits e clock (Wakes Kept) w = w
refill_waits e clock (Wakes Revised) w = w
refill_waits e clock (Wakes Renewed) w = w
refill_waits e clock Replenishes w = λ h. no _ h
refill_waits e clock Restarts w = w

place_waits : (e : Entity) (l : Enqueued) (boost : Boost) → IsWaited e → IsWaited (placed_of e l boost)
unfolding placed_of
place_waits e l Ordinary w = w
place_waits e l Boosted w = λ h. no _ h
place_waits e l Ends w = λ h. no _ h

constrained_waits : (e : Entity) (b : Bool) → IsWaited e → IsWaited (constrained_of e b)
unfolding constrained_of
constrained_waits e true w = λ h. refl
constrained_waits e false w = w

contended_waits : (e : Entity) (how : Contention) → IsWaited e → IsWaited (contended_of e how)
contended_waits e WasUnreserved w = w
contended_waits e StillRuns w = w
contended_waits e RunsAgain w = w

waking_waits : (e : Entity) (c : SumsChange) (flags : ℕ) (b : Bool) → contains_bits flags WAKEUP ≡ b → IsWaited e → IsWaited (waking_up_of e c flags).entity
unfolding waking_up_of
waking_waits e c flags true is w = rw is (contended_waits e _ w)
waking_waits e c flags false is w = rw is w

enqueue_by : (law : ChargeLaw) (e : Entity) (l : Enqueued) (boost : Boost) → IsWaited e → IsWaited (enqueuing_by law e l boost).entity
enqueue_by law e l Ends w = place_waits e l Ends w
enqueue_by law e l Ordinary w =
    refill_waits _ l.clock _ (waking_waits _ _ l.flags _ refl (constrained_waits _ _ (place_waits e l Ordinary w)))
enqueue_by law e l Boosted w =
    refill_waits _ l.clock _ (waking_waits _ _ l.flags _ refl (constrained_waits _ _ (place_waits e l Boosted w)))

pub enqueue_waits : (law : ChargeLaw) (e : Entity) (l : Enqueued) → EnqueueWaits law e l
unfolding enqueuing_of
enqueue_waits law e l w = enqueue_by law e l (boosting_of l) w

refills : (law : ChargeLaw) (x : Entity) (l : Enqueued) → contains_bits l.flags REPLENISH ≡ true → contains_bits l.flags WAKEUP ≡ false → refilling_of law x l ≡ Replenishes
unfolding refilling_of
refills law x l r w =
    rw r (rw w (elim x.budget.is_throttled as (λ b. (if b && false then Waits else Replenishes) ≡ Replenishes) [ true ↦ refl | false ↦ refl ]))

replenished_waits : (e : Entity) (clock : ℕ) (r : Refill) → r ≡ Replenishes → IsWaited (refilled_of e clock r)
unfolding refilled_of replenished_of
replenished_waits e clock r is = rw is (λ h. no _ h)

return_by : (law : ChargeLaw) (e : Entity) (l : Enqueued) (boost : Boost) → contains_bits l.flags REPLENISH ≡ true → contains_bits l.flags WAKEUP ≡ false → IsWaited (enqueuing_by law e l boost).entity
unfolding placed_of
return_by law e l Ends r w = λ h. no _ h
return_by law e l Ordinary r w = replenished_waits _ l.clock _ (refills law _ l r w)
return_by law e l Boosted r w = replenished_waits _ l.clock _ (refills law _ l r w)

pub return_waits : (law : ChargeLaw) (e : Entity) (l : Enqueued) → ReturnWaits law e l
unfolding enqueuing_of
return_waits law e l r w = return_by law e l (boosting_of l) r w

cleared_waits : (e : Entity) (b : Bool) → IsWaited e → IsWaited (if b then cleared_of e else e)
unfolding cleared_of
cleared_waits e true w = λ h. no _ h
cleared_waits e false w = w

block_waits : (e : Entity) (b : Block) → IsWaited e → IsWaited (blocked_of e b)
block_waits e Unreserved w = w
block_waits e (ZeroLagTimer ahead) w = w
block_waits e Past w = cleared_waits e (ends_of e) w

dequeue_by : (e : Entity) (flags on_rq clock : ℕ) (b : Bool) → contains_bits flags WAKEUP ≡ b → DequeueWaits e flags on_rq clock
unfolding dequeuing_of sleeping_of off_of taken_of
dequeue_by e flags on_rq clock true is w = rw is (block_waits (off_of e) _ w)
dequeue_by e flags on_rq clock false is w = rw is w

pub dequeue_waits : (e : Entity) (flags on_rq clock : ℕ) → DequeueWaits e flags on_rq clock
dequeue_waits e flags on_rq clock = dequeue_by e flags on_rq clock _ refl

timer_by : (e : Entity) (b : Bool) → e.budget.is_throttled ≡ b → TimerWaits e
unfolding replenish_fired_of replenished_blocked_of
timer_by e true t c d q = rw c (rw t (rw q (rw d (λ h. no _ h))))
timer_by e false t c d q = rw c (rw t (λ h. no _ h))

pub timer_waits : (e : Entity) → TimerWaits e
timer_waits e = timer_by e _ refl
