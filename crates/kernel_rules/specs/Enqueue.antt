-- A task is enqueued: enqueue_task_dl, enqueue_dl_entity.
use Rattle.std.specs.Prelude.{ℕ, pos, int_le, Bool, true, false, not, ◌&&◌, ◌==◌, if◌then◌else◌, Some, None, is_none}
use Rattle.std.specs.Int.{int_min}
use Rattle.trace_data.specs.declared.probe.Enqueued.{Enqueued}
use Rattle.kernel_rules.specs.declared.entity.Entity.{Entity}
use Rattle.kernel_rules.specs.declared.charge.ChargeLaw.{ChargeLaw}
use Rattle.kernel_rules.specs.declared.sums.SumsChange.{SumsChange}
use Rattle.kernel_rules.specs.declared.flags.TheConstants.{WAKEUP, RESTORE, REPLENISH, MOVING}
use Rattle.kernel_rules.specs.Clock.{plus, less, comes_before, contains_bits}
use Rattle.kernel_rules.specs.Sums.{no_change}
use Rattle.kernel_rules.specs.Budget.{timer_is_ahead, waking_of, woken_of, replenished_of, renewed_of}
use Rattle.kernel_rules.specs.Activity.{contending_of, contended_of, contending_change_of}
use Rattle.kernel_rules.specs.declared.enqueues.Boost.{Boost}
use Rattle.kernel_rules.specs.declared.enqueues.Boost.TheVariants.{Ordinary, Boosted, Ends}
use Rattle.kernel_rules.specs.declared.enqueues.Arrival.{Arrival}
use Rattle.kernel_rules.specs.declared.enqueues.Arrival.TheVariants.{Stays, Moves, Restores}
use Rattle.kernel_rules.specs.declared.enqueues.Refill.{Refill}
use Rattle.kernel_rules.specs.declared.enqueues.Refill.TheVariants.{Waits, Stays as RefillStays, Wakes, Replenishes, Restarts}
use Rattle.kernel_rules.specs.declared.enqueues.Enqueuing.{Enqueuing}
use Rattle.kernel_rules.specs.declared.enqueues.ZeroLagWake.{ZeroLagWake}

-- whose priority the task has
unfoldable pub boosting_of : Enqueued → Boost
boosting_of l =
    if not (l.entity == l.served_by) then Boosted else (if int_le (pos 0) l.normal_prio then Ends else Ordinary)

-- on the runqueue; a boosted one is not throttled
unfoldable pub placed_of : Entity → Enqueued → Boost → Entity
placed_of e l Ordinary = record e { is_in_class = true; is_queued = true; donor = None }
placed_of e l Boosted = record e {
  is_in_class = true;
  is_queued = true;
  donor = Some l.donor;
  budget = record e.budget { is_throttled = false };
  has_deadline_timer = e.has_deadline_timer && not e.budget.is_throttled;
}
placed_of e l Ends = record e {
  is_in_class = true;
  is_queued = true;
  donor = None;
  budget = record e.budget { is_throttled = false };
}

-- dl_check_constrained_dl
unfoldable pub is_constrained_of : Entity → ℕ → Bool
is_constrained_of e clock =
    not e.budget.is_throttled && not (e.parameters.dl_deadline == e.parameters.dl_period) && comes_before e.budget.deadline clock
    && comes_before clock (plus (less e.budget.deadline e.parameters.dl_deadline) e.parameters.dl_period)
    && is_none e.donor && timer_is_ahead e clock

unfoldable pub constrained_of : Entity → Bool → Entity
constrained_of e b =
    if b
    then record e { budget = record e.budget { is_throttled = true; runtime = int_min e.budget.runtime (pos 0) }; has_deadline_timer = true }
    else e

unfoldable pub arriving_of : Enqueued → Arrival
arriving_of l = if l.on_rq == MOVING then Moves else (if contains_bits l.flags RESTORE then Restores else Stays)

unfoldable pub arriving_change : Entity → Arrival → SumsChange
arriving_change e Stays = no_change
arriving_change e Moves = record { this_bw = e.dl_bw; running_bw = e.dl_bw; freed = None; taken = None }
arriving_change e Restores = record { this_bw = e.dl_bw; running_bw = e.dl_bw; freed = None; taken = None }

-- task_contending, where it wakes
unfoldable pub waking_up_of : Entity → SumsChange → ℕ → ZeroLagWake
waking_up_of e c flags =
    if contains_bits flags WAKEUP
    then (let how = contending_of e in
    let more = contending_change_of e flags how in
    record {
      entity = contended_of e how;
      change = record c { this_bw = plus c.this_bw more.this_bw; running_bw = plus c.running_bw more.running_bw };
      contention = Some how;
    })
    else record { entity = e; change = c; contention = None }

-- what happens to budget and deadline (enqueue_dl_entity)
unfoldable pub refilling_of : ChargeLaw → Entity → Enqueued → Refill
refilling_of law e l =
    if e.budget.is_throttled && not (contains_bits l.flags REPLENISH) then Waits
    else (if contains_bits l.flags WAKEUP then Wakes (waking_of law e l.clock)
    else (if contains_bits l.flags REPLENISH then Replenishes
    else (if contains_bits l.flags RESTORE && is_none e.donor && comes_before e.budget.deadline l.clock then Restarts
    else RefillStays)))

unfoldable pub refilled_of : Entity → ℕ → Refill → Entity
refilled_of e clock Waits = e
refilled_of e clock RefillStays = record e { is_in_tree = true }
refilled_of e clock (Wakes wake) = record (woken_of e clock wake) { is_in_tree = true }
refilled_of e clock Replenishes = record (replenished_of e clock) { is_in_tree = true }
refilled_of e clock Restarts = record (renewed_of e clock) { is_in_tree = true }

abbrev pub ended_of : Entity → Boost → Enqueuing
ended_of placed boost = record {
  entity = placed;
  change = no_change;
  boost = boost;
  is_constrained = false;
  starts_timer = false;
  arrival = Stays;
  contention = None;
  refill = Waits;
}

abbrev pub entered_of : ChargeLaw → Entity → Enqueued → Boost → Enqueuing
entered_of law placed l boost =
    let throttled = is_constrained_of placed l.clock in
    let e = constrained_of placed throttled in
    let arrival = arriving_of l in
    let waking = waking_up_of e (arriving_change e arrival) l.flags in
    let refill = refilling_of law waking.entity l in
    record {
      entity = refilled_of waking.entity l.clock refill;
      change = waking.change;
      boost = boost;
      is_constrained = throttled;
      starts_timer = throttled && not placed.has_deadline_timer;
      arrival = arrival;
      contention = waking.contention;
      refill = refill;
    }

-- the steps of enqueue_task_dl by whose priority the task has; the boost of a task of another class may end
abbrev pub enqueuing_by : ChargeLaw → Entity → Enqueued → Boost → Enqueuing
enqueuing_by law e l Ends = ended_of (placed_of e l Ends) Ends
enqueuing_by law e l Ordinary = entered_of law (placed_of e l Ordinary) l Ordinary
enqueuing_by law e l Boosted = entered_of law (placed_of e l Boosted) l Boosted

unfoldable pub enqueuing_of : ChargeLaw → Entity → Enqueued → Enqueuing
enqueuing_of law e l = enqueuing_by law e l (boosting_of l)
