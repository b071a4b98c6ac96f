-- The handler of an inactive timer (inactive_task_timer) runs until it returns: hrtimer_active is true of the timer all the while.
use Rattle.std.specs.Prelude.{ℕ, Bool, true, false, ◌&&◌, ◌==◌, if◌then◌else◌}
use Rattle.std.specs.List.{list_any}
use Rattle.trace_data.specs.declared.probe.Admitted.{Admitted}
use Rattle.kernel_rules.specs.declared.entity.Entity.{Entity}
use Rattle.kernel_rules.specs.declared.delays.Delayed.{Delayed}
use Rattle.kernel_rules.specs.declared.delays.Delayed.TheVariants.{Moved, ZeroLag}
use Rattle.kernel_rules.specs.declared.dequeues.Dequeuing.{Dequeuing}
use Rattle.kernel_rules.specs.declared.exits.Leaving.{Leaving}
use Rattle.kernel_rules.specs.declared.admissions.Admitting.{Admitting}
use Rattle.kernel_rules.specs.Dequeue.{dequeuing_of}
use Rattle.kernel_rules.specs.Leave.{leaving_of}
use Rattle.kernel_rules.specs.Admit.{admitting_of}
use Rattle.probe_run.specs.declared.waiting.Effect.{Effect}
use Rattle.probe_run.specs.declared.waiting.Effect.TheVariants.{Adds, Locks, Returns, MovesOffline}
use Rattle.probe_run.specs.declared.waiting.PendingEffect.{PendingEffect}
use Rattle.probe_run.specs.State.{State}

-- the handler of this entity's timer has not returned
abbrev pub returns_by : ℕ → Effect → Bool
returns_by n (Adds sum amount) = false
returns_by n (Locks cpu m delayed) = false
returns_by n (Returns m) = n == m
returns_by n MovesOffline = false

abbrev pub is_return_of : ℕ → PendingEffect → Bool
is_return_of n p = returns_by n p.effect

abbrev pub handler_runs : State → ℕ → Bool
handler_runs s n = list_any (is_return_of n) s.pending

-- nor has it had the runqueue's lock: a handler returns behind that
abbrev pub zero_lag_by : ℕ → Delayed → ℕ → Bool
zero_lag_by n Moved m = false
zero_lag_by n ZeroLag m = n == m

abbrev pub handles_by : ℕ → Effect → Bool
handles_by n (Adds sum amount) = false
handles_by n (Locks cpu m delayed) = zero_lag_by n delayed m
handles_by n (Returns m) = false
handles_by n MovesOffline = false

abbrev pub is_handler_by : ℕ → ℕ → PendingEffect → Bool
is_handler_by x n p = (p.place.cpu == x) && handles_by n p.effect

-- hrtimer_active, as task_non_contending and sched_dl_overflow ask: the timer is armed, or its handler runs
abbrev pub as_active : Bool → Entity → Entity
as_active runs e = if runs then record e { has_inactive_timer = true } else e

-- and whether it is armed: none of them arms a timer whose handler runs
abbrev pub as_armed : Bool → Entity → Entity → Entity
as_armed runs before e = if runs then record e { has_inactive_timer = e.has_inactive_timer && before.has_inactive_timer } else e

abbrev pub dequeuing_while : Bool → Entity → ℕ → ℕ → ℕ → Dequeuing
dequeuing_while runs e flags on_rq clock =
    let done = dequeuing_of (as_active runs e) flags on_rq clock in record done { entity = as_armed runs e done.entity }

abbrev pub leaving_while : Bool → Entity → ℕ → ℕ → Leaving
leaving_while runs e on_rq clock =
    let done = leaving_of (as_active runs e) on_rq clock in record done { entity = as_armed runs e done.entity }

abbrev pub admitting_while : Bool → Entity → Admitted → ℕ → Admitting
admitting_while runs e m room = let done = admitting_of (as_active runs e) m room in record done { entity = as_armed runs e done.entity }
