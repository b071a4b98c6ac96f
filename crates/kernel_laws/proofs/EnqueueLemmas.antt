-- An enqueue balances.
use Rattle.std.proofs.Common.{◌≡◌, ℕ, ◌^◌, ◌<◌, ◌==◌, Bool, true, false, not, if◌then◌else◌, arith, refl, sym, ◌∙◌}
use Rattle.kernel_rules.specs.declared.entity.Entity.{Entity}
use Rattle.kernel_rules.specs.declared.charge.ChargeLaw.{ChargeLaw}
use Rattle.kernel_rules.specs.declared.flags.TheConstants.{WAKEUP, RESTORE, MIGRATED, MOVING}
use Rattle.kernel_rules.specs.declared.budget.Wake.TheVariants.{Kept, Revised, Renewed}
use Rattle.kernel_rules.specs.Clock.{plus, contains_bits}
use Rattle.kernel_rules.specs.Sums.{no_change}
use Rattle.kernel_rules.specs.Budget.{renewed_of, revised_of, replenished_of, recharged_of, renewed_if}
use Rattle.kernel_rules.specs.Activity.{contending_of}
use Rattle.trace_data.specs.declared.probe.Enqueued.{Enqueued}
use Rattle.kernel_rules.specs.declared.enqueues.Boost.{Boost}
use Rattle.kernel_rules.specs.declared.enqueues.Boost.TheVariants.{Ordinary, Boosted, Ends}
use Rattle.kernel_rules.specs.declared.enqueues.Arrival.{Arrival}
use Rattle.kernel_rules.specs.declared.enqueues.Arrival.TheVariants.{Stays, Moves, Restores}
use Rattle.kernel_rules.specs.declared.enqueues.Refill.{Refill}
use Rattle.kernel_rules.specs.declared.enqueues.Refill.TheVariants.{Waits, Stays as RefillStays, Wakes, Replenishes, Restarts}
use Rattle.kernel_rules.specs.Enqueue.{enqueuing_of, enqueuing_by, boosting_of, placed_of, is_constrained_of, constrained_of, arriving_of, arriving_change, waking_up_of, refilling_of, refilled_of}
use Rattle.kernel_laws.specs.Summing.{counted, active, away, Balances, waking_place, IsEnqueue, WakeBalances, RestoreBalances, ReplenishBalances}

-- what a refill leaves alone: the bandwidth
if_keeps : (b : Bool) (e : Entity) (clock : ℕ) → (renewed_if b e clock).dl_bw ≡ e.dl_bw
unfolding renewed_of
if_keeps true e clock = refl
if_keeps false e clock = refl

recharge_keeps : (e : Entity) → (recharged_of e).dl_bw ≡ e.dl_bw
unfolding recharged_of
recharge_keeps e = refl

refill_keeps : (e : Entity) (clock : ℕ) (r : Refill) → (refilled_of e clock r).dl_bw ≡ e.dl_bw
unfolding refilled_of renewed_of revised_of replenished_of
refill_keeps e clock Waits = refl
refill_keeps e clock RefillStays = refl
refill_keeps e clock (Wakes Kept) = refl
refill_keeps e clock (Wakes Revised) = refl
refill_keeps e clock (Wakes Renewed) = refl
refill_keeps e clock Replenishes =
    if_keeps _ _ clock ∙ recharge_keeps _ ∙ if_keeps _ e clock
refill_keeps e clock Restarts = refl

same : (bw : ℕ) → bw < 2 ^ 64 → plus bw (plus 0 0) ≡ bw
same bw h = omega arith

comes : (bw : ℕ) → bw < 2 ^ 64 → plus 0 (plus 0 bw) ≡ bw
comes bw h = omega arith

wakes_this : (migrated : Bool) (bw : ℕ) → bw < 2 ^ 64 → plus (counted (not migrated) bw) (plus 0 (if migrated then bw else 0)) ≡ bw
wakes_this true bw h = comes bw h
wakes_this false bw h = same bw h

-- a wake of any entity
pub record WakesUp (x : Entity) (flags : ℕ) : Type 0 where
  this : plus (counted (not (contains_bits flags MIGRATED)) x.dl_bw) (waking_up_of x no_change flags).change.this_bw ≡ x.dl_bw
  running : plus (counted x.is_non_contending x.dl_bw) (waking_up_of x no_change flags).change.running_bw ≡ x.dl_bw
  bw : (waking_up_of x no_change flags).entity.dl_bw ≡ x.dl_bw

pub wakes_up : (x : Entity) (flags : ℕ) → x.dl_bw < 2 ^ 64 → (x.parameters.dl_runtime == 0) ≡ false → contains_bits flags WAKEUP ≡ true → (non : Bool) → x.is_non_contending ≡ non
    → WakesUp x flags
unfolding waking_up_of contending_of
wakes_up x flags h r w true n = record {
  this = rw w (rw r (rw n (wakes_this (contains_bits flags MIGRATED) x.dl_bw h)));
  running = rw w (rw r (rw n (same x.dl_bw h)));
  bw = rw w (rw r (rw n refl));
}
wakes_up x flags h r w false n = record {
  this = rw w (rw r (rw n (wakes_this (contains_bits flags MIGRATED) x.dl_bw h)));
  running = rw w (rw r (rw n (comes x.dl_bw h)));
  bw = rw w (rw r (rw n refl));
}

wake_enters : (law : ChargeLaw) (e : Entity) (l : Enqueued) (x : Entity) → x.dl_bw ≡ e.dl_bw → x.is_non_contending ≡ e.is_non_contending → WakesUp x l.flags
    → Balances e (waking_place (contains_bits l.flags MIGRATED) e.is_non_contending) (waking_up_of x no_change l.flags).change
    (refilled_of (waking_up_of x no_change l.flags).entity l.clock (refilling_of law (waking_up_of x no_change l.flags).entity l)) active
wake_enters law e l x same_bw same_non w =
    let k = refill_keeps (waking_up_of x no_change l.flags).entity l.clock (refilling_of law (waking_up_of x no_change l.flags).entity l) ∙ w.bw in
    record {
      this = rw (← same_bw) (w.this ∙ sym k);
      running = rw (← same_bw) (rw (← same_non) (w.running ∙ sym k));
    }

con_bw : (x : Entity) (b : Bool) → (constrained_of x b).dl_bw ≡ x.dl_bw
unfolding constrained_of
con_bw x true = refl
con_bw x false = refl

con_non : (x : Entity) (b : Bool) → (constrained_of x b).is_non_contending ≡ x.is_non_contending
unfolding constrained_of
con_non x true = refl
con_non x false = refl

con_runtime : (x : Entity) (b : Bool) → (constrained_of x b).parameters.dl_runtime ≡ x.parameters.dl_runtime
unfolding constrained_of
con_runtime x true = refl
con_runtime x false = refl

place_bw : (e : Entity) (l : Enqueued) (boost : Boost) → (placed_of e l boost).dl_bw ≡ e.dl_bw
unfolding placed_of
place_bw e l Ordinary = refl
place_bw e l Boosted = refl
place_bw e l Ends = refl

place_non : (e : Entity) (l : Enqueued) (boost : Boost) → (placed_of e l boost).is_non_contending ≡ e.is_non_contending
unfolding placed_of
place_non e l Ordinary = refl
place_non e l Boosted = refl
place_non e l Ends = refl

place_runtime : (e : Entity) (l : Enqueued) (boost : Boost) → (placed_of e l boost).parameters.dl_runtime ≡ e.parameters.dl_runtime
unfolding placed_of
place_runtime e l Ordinary = refl
place_runtime e l Boosted = refl
place_runtime e l Ends = refl

-- the task as it comes to the tree
abbrev coming : Entity → Enqueued → Boost → Entity
coming e l boost = constrained_of (placed_of e l boost) (is_constrained_of (placed_of e l boost) l.clock)

coming_bw : (e : Entity) (l : Enqueued) (boost : Boost) → (coming e l boost).dl_bw ≡ e.dl_bw
coming_bw e l boost = con_bw _ _ ∙ place_bw e l boost

coming_non : (e : Entity) (l : Enqueued) (boost : Boost) → (coming e l boost).is_non_contending ≡ e.is_non_contending
coming_non e l boost = con_non _ _ ∙ place_non e l boost

comes_up : (e : Entity) (l : Enqueued) → IsEnqueue e l → (boost : Boost) → contains_bits l.flags WAKEUP ≡ true → WakesUp (coming e l boost) l.flags
comes_up e l o boost w =
    let h : (coming e l boost).dl_bw < 2 ^ 64 = rw (coming_bw e l boost) o.fits in
    let r : ((coming e l boost).parameters.dl_runtime == 0) ≡ false = rw (con_runtime (placed_of e l boost) (is_constrained_of (placed_of e l boost) l.clock) ∙ place_runtime e l boost) o.reserved in
    wakes_up (coming e l boost) l.flags h r w _ refl

waking_by : (law : ChargeLaw) (e : Entity) (l : Enqueued) (o : IsEnqueue e l) (boost : Boost) → (boost ≡ Ends → ⊥) → contains_bits l.flags WAKEUP ≡ true
    → contains_bits l.flags RESTORE ≡ false → (l.on_rq == MOVING) ≡ false
    → Balances e (waking_place (contains_bits l.flags MIGRATED) e.is_non_contending) (enqueuing_by law e l boost).change (enqueuing_by law e l boost).entity active
unfolding arriving_of arriving_change
waking_by law e l o Ends bad w s m = absurd (bad refl)
waking_by law e l o Ordinary bad w s m =
    rw m (rw s (wake_enters law e l (coming e l Ordinary) (coming_bw e l Ordinary) (coming_non e l Ordinary) (comes_up e l o Ordinary w)))
waking_by law e l o Boosted bad w s m =
    rw m (rw s (wake_enters law e l (coming e l Boosted) (coming_bw e l Boosted) (coming_non e l Boosted) (comes_up e l o Boosted w)))

pub wake_balances : (law : ChargeLaw) (e : Entity) (l : Enqueued) → WakeBalances law e l
unfolding enqueuing_of
wake_balances law e l o w s m = waking_by law e l o (boosting_of l) o.ordinary w s m

all : (bw : ℕ) → bw < 2 ^ 64 → plus 0 bw ≡ bw
all bw h = omega arith

stays : (bw : ℕ) → bw < 2 ^ 64 → plus bw 0 ≡ bw
stays bw h = omega arith

-- the task in the tree keeps its bandwidth
in_tree : (law : ChargeLaw) (e : Entity) (l : Enqueued) (boost : Boost) → (refilled_of (coming e l boost) l.clock (refilling_of law (coming e l boost) l)).dl_bw ≡ e.dl_bw
in_tree law e l boost = refill_keeps _ l.clock _ ∙ coming_bw e l boost

restoring_by : (law : ChargeLaw) (e : Entity) (l : Enqueued) (o : IsEnqueue e l) (boost : Boost) (a : Arrival) → (boost ≡ Ends → ⊥) → (a ≡ Stays → ⊥) → arriving_of l ≡ a
    → contains_bits l.flags WAKEUP ≡ false
    → Balances e away (enqueuing_by law e l boost).change (enqueuing_by law e l boost).entity active
unfolding arriving_change waking_up_of
restoring_by law e l o Ends a bad some is w = absurd (bad refl)
restoring_by law e l o boost Stays bad some is w = absurd (some refl)
restoring_by law e l o Ordinary Moves bad some is w =
    rw is (rw w (record { this = rw (in_tree law e l Ordinary) (rw (coming_bw e l Ordinary) (all e.dl_bw o.fits)); running = rw (in_tree law e l Ordinary) (rw (coming_bw e l Ordinary) (all e.dl_bw o.fits)) }))
restoring_by law e l o Ordinary Restores bad some is w =
    rw is (rw w (record { this = rw (in_tree law e l Ordinary) (rw (coming_bw e l Ordinary) (all e.dl_bw o.fits)); running = rw (in_tree law e l Ordinary) (rw (coming_bw e l Ordinary) (all e.dl_bw o.fits)) }))
restoring_by law e l o Boosted Moves bad some is w =
    rw is (rw w (record { this = rw (in_tree law e l Boosted) (rw (coming_bw e l Boosted) (all e.dl_bw o.fits)); running = rw (in_tree law e l Boosted) (rw (coming_bw e l Boosted) (all e.dl_bw o.fits)) }))
restoring_by law e l o Boosted Restores bad some is w =
    rw is (rw w (record { this = rw (in_tree law e l Boosted) (rw (coming_bw e l Boosted) (all e.dl_bw o.fits)); running = rw (in_tree law e l Boosted) (rw (coming_bw e l Boosted) (all e.dl_bw o.fits)) }))

pub restore_balances : (law : ChargeLaw) (e : Entity) (l : Enqueued) → RestoreBalances law e l
unfolding enqueuing_of
restore_balances law e l o w some = restoring_by law e l o (boosting_of l) (arriving_of l) o.ordinary some refl w

replenishing_by : (law : ChargeLaw) (e : Entity) (l : Enqueued) (o : IsEnqueue e l) (boost : Boost) → (boost ≡ Ends → ⊥) → arriving_of l ≡ Stays
    → contains_bits l.flags WAKEUP ≡ false
    → Balances e active (enqueuing_by law e l boost).change (enqueuing_by law e l boost).entity active
unfolding arriving_change waking_up_of
replenishing_by law e l o Ends bad is w = absurd (bad refl)
replenishing_by law e l o Ordinary bad is w =
    rw is (rw w (record { this = rw (in_tree law e l Ordinary) (stays e.dl_bw o.fits); running = rw (in_tree law e l Ordinary) (stays e.dl_bw o.fits) }))
replenishing_by law e l o Boosted bad is w =
    rw is (rw w (record { this = rw (in_tree law e l Boosted) (stays e.dl_bw o.fits); running = rw (in_tree law e l Boosted) (stays e.dl_bw o.fits) }))

pub replenish_balances : (law : ChargeLaw) (e : Entity) (l : Enqueued) → ReplenishBalances law e l
unfolding enqueuing_of
replenish_balances law e l o w is = replenishing_by law e l o (boosting_of l) o.ordinary is w
