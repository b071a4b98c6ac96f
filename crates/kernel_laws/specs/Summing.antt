-- What an event does to the sums of a runqueue, and what its entity adds to them before and after.
use Rattle.std.specs.Prelude.{ℕ, ◌≡◌, ◌^◌, ◌<◌, Bool, true, false, not, ◌==◌, if◌then◌else◌, List, [], ◌∷◌, ◌++◌}
use Rattle.kernel_rules.specs.declared.entity.Entity.{Entity}
use Rattle.kernel_rules.specs.declared.sums.SumsChange.{SumsChange}
use Rattle.kernel_rules.specs.declared.charge.ChargeLaw.{ChargeLaw}
use Rattle.trace_data.specs.declared.probe.Enqueued.{Enqueued}
use Rattle.kernel_rules.specs.declared.flags.TheConstants.{WAKEUP, RESTORE, MIGRATED, MOVING, QUEUED}
use Rattle.kernel_rules.specs.declared.activity.Block.{Block}
use Rattle.kernel_rules.specs.declared.activity.Block.TheVariants.{Unreserved, ZeroLagTimer, Past}
use Rattle.kernel_rules.specs.Clock.{plus, contains_bits}
use Rattle.kernel_rules.specs.Sums.{changed_of}
use Rattle.kernel_rules.specs.Activity.{blocking_of}
use Rattle.trace_data.specs.declared.quantities.Sums.{Sums}
use Rattle.trace_data.specs.declared.probe.Admitted.{Admitted}
use Rattle.kernel_rules.specs.declared.admissions.Admission.TheVariants.{Changed, Back, New}
use Rattle.kernel_rules.specs.Admit.{admitting_of, admission_of, is_queued_of}
use Rattle.kernel_rules.specs.Leave.{leaving_of}
use Rattle.kernel_rules.specs.declared.delays.Delayed.TheVariants.{Moved, ZeroLag}
use Rattle.kernel_rules.specs.Dequeue.{dequeuing_of, off_of}
use Rattle.kernel_rules.specs.declared.enqueues.Boost.TheVariants.{Ends}
use Rattle.kernel_rules.specs.declared.enqueues.Arrival.TheVariants.{Stays}
use Rattle.kernel_rules.specs.Enqueue.{enqueuing_of, boosting_of, arriving_of}
use Rattle.kernel_rules.specs.Later.{delayed_change_of, after_delayed_of}

-- a bandwidth in a sum that counts it, or does not
abbrev pub counted : Bool → ℕ → ℕ
counted true bw = bw
counted false bw = 0

-- in which sums of its runqueue an entity is counted
pub record Place : Type 0 where
  pub in_this : Bool
  pub in_running : Bool

abbrev pub active : Place
active = record { in_this = true; in_running = true }

abbrev pub inactive : Place
inactive = record { in_this = true; in_running = false }

abbrev pub away : Place
away = record { in_this = false; in_running = false }

-- blocked: active up to its 0-lag time
abbrev pub blocked_place : Bool → Place
blocked_place non_contending = record { in_this = true; in_running = non_contending }

-- the sums change by what the entity adds after the event less what it added before, modulo 2 ^ 64
pub record Balances (before : Entity) (was : Place) (change : SumsChange) (after : Entity) (is : Place) : Type 0 where
  pub this : plus (counted was.in_this before.dl_bw) change.this_bw ≡ counted is.in_this after.dl_bw
  pub running : plus (counted was.in_running before.dl_bw) change.running_bw ≡ counted is.in_running after.dl_bw

-- a task of the class, with a bandwidth of 64 bits
pub record IsInClass (e : Entity) : Type 0 where
  pub class : e.is_in_class ≡ true
  pub task : e.is_server ≡ false
  pub fits : e.dl_bw < 2 ^ 64

-- dequeue_task_dl with DEQUEUE_SLEEP: active up to the 0-lag time, and inactive where that is past
abbrev pub place_after : Block → Place
place_after Unreserved = active
place_after (ZeroLagTimer _) = active
place_after Past = inactive

abbrev pub SleepBalances : Entity → ℕ → ℕ → ℕ → Type 0
SleepBalances e flags on_rq clock =
    IsInClass e → e.is_dead ≡ false → contains_bits flags WAKEUP ≡ true → contains_bits flags RESTORE ≡ false → (on_rq == MOVING) ≡ false
    → let d = dequeuing_of e flags on_rq clock in Balances e active d.change d.entity (place_after (blocking_of (off_of e) clock))

-- dequeue_task_dl with DEQUEUE_SAVE, or to another runqueue: counted nowhere
abbrev pub SaveBalances : Entity → ℕ → ℕ → ℕ → Type 0
SaveBalances e flags on_rq clock =
    IsInClass e → contains_bits flags WAKEUP ≡ false → contains_bits flags RESTORE ≡ true → (on_rq == MOVING) ≡ false
    → let d = dequeuing_of e flags on_rq clock in Balances e active d.change d.entity away

-- migrate_task_rq_dl of a waking task: its old runqueue counts it no more
abbrev pub MoveBalances : Entity → Type 0
MoveBalances e =
    IsInClass e → Balances e (blocked_place e.is_non_contending) (delayed_change_of e Moved e.dl_bw) (after_delayed_of e Moved) away

-- inactive_task_timer: inactive; and counted nowhere where the task has ended
abbrev pub ZeroLagBalances : Entity → Type 0
ZeroLagBalances e =
    IsInClass e → e.is_non_contending ≡ true
    → Balances e active (delayed_change_of e ZeroLag e.dl_bw) (after_delayed_of e ZeroLag) (record { in_this = not e.is_dead; in_running = false })

-- an enqueue of a task of the class, not the end of the boost of another
pub record IsEnqueue (e : Entity) (l : Enqueued) : Type 0 where
  pub ordinary : boosting_of l ≡ Ends → ⊥
  pub reserved : (e.parameters.dl_runtime == 0) ≡ false
  pub fits : e.dl_bw < 2 ^ 64

-- a blocked task, which may have moved here with its wake
abbrev pub waking_place : Bool → Bool → Place
waking_place migrated non_contending = record { in_this = not migrated; in_running = non_contending }

-- enqueue_task_dl with ENQUEUE_WAKEUP: a blocked task is active; one that moved here was counted elsewhere
abbrev pub WakeBalances : ChargeLaw → Entity → Enqueued → Type 0
WakeBalances law e l =
    IsEnqueue e l → contains_bits l.flags WAKEUP ≡ true → contains_bits l.flags RESTORE ≡ false → (l.on_rq == MOVING) ≡ false
    → let d = enqueuing_of law e l in
    Balances e (waking_place (contains_bits l.flags MIGRATED) e.is_non_contending) d.change d.entity active

-- enqueue_task_dl with ENQUEUE_RESTORE, or from another runqueue: counted here from now on
abbrev pub RestoreBalances : ChargeLaw → Entity → Enqueued → Type 0
RestoreBalances law e l =
    IsEnqueue e l → contains_bits l.flags WAKEUP ≡ false → (arriving_of l ≡ Stays → ⊥)
    → let d = enqueuing_of law e l in Balances e away d.change d.entity active

-- any other enqueue, as a replenishment: counted as before
abbrev pub ReplenishBalances : ChargeLaw → Entity → Enqueued → Type 0
ReplenishBalances law e l =
    IsEnqueue e l → contains_bits l.flags WAKEUP ≡ false → arriving_of l ≡ Stays
    → let d = enqueuing_of law e l in Balances e active d.change d.entity active

-- switched_from_dl: a queued task was taken off before; a blocked one is taken off here
abbrev pub LeaveBalances : Entity → ℕ → ℕ → Type 0
LeaveBalances e on_rq clock =
    e.is_server ≡ false → e.is_dead ≡ false → e.dl_bw < 2 ^ 64
    → let d = leaving_of e on_rq clock in
    Balances e (if on_rq == QUEUED then away else blocked_place e.is_non_contending) d.change d.entity away

-- sched_dl_overflow: a queued task takes its new bandwidth at its next enqueue, any other at once
abbrev pub place_entered : Bool → Place
place_entered queued = if queued then away else inactive

abbrev pub place_changed : Bool → Place
place_changed queued = if queued then active else inactive

abbrev pub place_before : Entity → Bool → Place
place_before e queued = if queued then active else blocked_place e.is_non_contending

pub record AdmissionBalances (e : Entity) (l : Admitted) (cpus : ℕ) : Type 0 where
  pub entered : admission_of e l cpus ≡ New → Balances e away (admitting_of e l cpus).change (admitting_of e l cpus).entity (place_entered (is_queued_of l))
  pub came_back : admission_of e l cpus ≡ Back → Balances e away (admitting_of e l cpus).change (admitting_of e l cpus).entity (place_entered (is_queued_of l))
  pub changed : admission_of e l cpus ≡ Changed → e.dl_bw < 2 ^ 64
      → Balances e (place_before e (is_queued_of l)) (admitting_of e l cpus).change (admitting_of e l cpus).entity (place_changed (is_queued_of l))

-- an entity, and where it stands
pub record Standing : Type 0 where
  pub entity : Entity
  pub place : Place

-- the sums of what stands on a runqueue, modulo 2 ^ 64
abbrev pub total_this : List Standing → ℕ
total_this [] = 0
total_this (s ∷ ss) = plus (counted s.place.in_this s.entity.dl_bw) (total_this ss)

abbrev pub total_running : List Standing → ℕ
total_running [] = 0
total_running (s ∷ ss) = plus (counted s.place.in_running s.entity.dl_bw) (total_running ss)

-- this_bw is the sum over what the runqueue counts, running_bw over what is active
pub record AreSums (sums : Sums) (standing : List Standing) : Type 0 where
  pub this : sums.this_bw ≡ total_this standing
  pub running : sums.running_bw ≡ total_running standing

-- they stay so at an event of one entity that balances
abbrev pub SumsStay : List Standing → Standing → List Standing → Sums → SumsChange → Standing → Type 0
SumsStay before one behind sums change after =
    AreSums sums (before ++ one ∷ behind) → Balances one.entity one.place change after.entity after.place
    → AreSums (changed_of sums change) (before ++ after ∷ behind)
