-- What lines change in a run, whatever their functions are.
use Rattle.std.specs.Prelude.{ℕ, nat_le, Bool, true, false, not, ◌&&◌, ◌||◌, ◌==◌, if◌then◌else◌, Option, Some, None, List, [], ◌∷◌, ◌++◌, filter, map, length, nat_lt, position, remove, slice_get, unwrap_or}
use Rattle.std.specs.List.{list_any}
use Rattle.trace_data.specs.declared.quantities.Sums.{Sums}
use Rattle.kernel_rules.specs.declared.delays.Delayed.{Delayed}
use Rattle.probe_findings.specs.declared.words.ProbedLine.{ProbedLine}
use Rattle.probe_run.specs.declared.rules.Processor.{Processor}
use Rattle.probe_run.specs.declared.sums.Runqueue.{Runqueue}
use Rattle.probe_run.specs.declared.waiting.UnlockedSum.{UnlockedSum}
use Rattle.probe_run.specs.declared.waiting.UnlockedSum.TheVariants.{ExtraBw}
use Rattle.probe_run.specs.declared.waiting.Effect.{Effect}
use Rattle.probe_run.specs.declared.waiting.Effect.TheVariants.{Adds, Locks, Returns, MovesOffline}
use Rattle.probe_run.specs.declared.waiting.PendingEffect.{PendingEffect}
use Rattle.probe_run.specs.declared.waiting.Awaits.TheVariants.{Enqueue, Nothing}
use Rattle.probe_run.specs.declared.waiting.OpenDequeue.{OpenDequeue}
use Rattle.probe_run.specs.declared.waiting.OlderDequeue.{OlderDequeue}
use Rattle.probe_run.specs.State.{State, found_at, put_at, set_of}
use Rattle.probe_run.specs.Sums.{runqueue_of, keep_runqueue, is_processor, opened}

abbrev pub is_of_cpu : ℕ → ℕ → Bool
is_of_cpu cpu one = one == cpu

-- a line begins: its CPU's dequeue, if one waited for it, does so no more
abbrev pub begun_dequeue : ℕ → OpenDequeue → OpenDequeue
begun_dequeue x w = if w.place.cpu == x then record w { awaits = Nothing } else w

abbrev pub is_rest_of_other : ℕ → OpenDequeue → Bool
is_rest_of_other x w = not (w.place.cpu == x)

abbrev pub is_older_of_other : ℕ → OlderDequeue → Bool
is_older_of_other x b = not (b.by == x)

-- dl_task_timer returns: a task whose CPU went was moved at a point of its own, or it was not moved
abbrev pub moves_offline : Effect → Bool
moves_offline (Adds sum amount) = false
moves_offline (Locks cpu n delayed) = false
moves_offline (Returns n) = false
moves_offline MovesOffline = true

abbrev pub stays_pending : ℕ → PendingEffect → Bool
stays_pending x p = not ((p.place.cpu == x) && moves_offline p.effect)

abbrev pub begun : State → ℕ → ℕ → Bool → Bool → State
begun s x at drops_older_dequeues writes = record s {
  pending = filter (stays_pending x) s.pending;
  open_dequeues = map (begun_dequeue x) s.open_dequeues;
  early = filter (is_rest_of_other x) s.early;
  older_dequeues = if drops_older_dequeues then filter (is_older_of_other x) s.older_dequeues else s.older_dequeues;
  now = at;
  wrote = if writes && not (list_any (is_of_cpu x) s.wrote) then s.wrote ++ x ∷ [] else s.wrote;
}

-- a sum that is read without its lock: nothing is claimed of what is open
abbrev pub claim_in : State → ProbedLine → UnlockedSum → ℕ → State
claim_in s place sum value =
    if nat_le s.now s.open_until then s else record s { claims = s.claims ++ record { place = place; sum = sum; value = value } ∷ [] }

abbrev pub sums_open : State → ℕ → Bool
sums_open s cpu = nat_le s.now (runqueue_of s cpu).open_until

-- this_bw and running_bw of a line are known from then on, its extra_bw is a claim
abbrev pub shown_queue : State → ℕ → Sums → Runqueue
shown_queue s cpu shown =
    let q = runqueue_of s cpu in
    if sums_open s cpu then q else record q { this_bw = Some shown.this_bw; running_bw = Some shown.running_bw }

abbrev pub queue_read : State → ℕ → Sums → State
queue_read s cpu shown = keep_runqueue s (shown_queue s cpu shown)

abbrev pub sums_read : State → ProbedLine → ℕ → Sums → State
sums_read s place cpu shown = claim_in (queue_read s cpu shown) place (ExtraBw cpu) shown.extra_bw

-- a dequeue begins, and may wait for an enqueue within it
abbrev pub begin_open_dequeue : State → OpenDequeue → State
begin_open_dequeue s w = record s { open_dequeues = s.open_dequeues ++ w ∷ [] }

abbrev pub again_dequeue : ℕ → OpenDequeue → OpenDequeue
again_dequeue x w = if w.place.cpu == x then record w { awaits = Enqueue } else w

abbrev pub await_enqueue : State → ℕ → Bool → State
await_enqueue s x again = if again then record s { open_dequeues = map (again_dequeue x) s.open_dequeues } else s

-- a function waits for the lock of a runqueue
abbrev pub pend_lock : State → ProbedLine → ℕ → ℕ → Delayed → State
pend_lock s place cpu n delayed = record s { pending = s.pending ++ record { place = place; effect = Locks cpu n delayed } ∷ [] }

-- a handler runs until it returns
abbrev pub pend_return : State → ProbedLine → ℕ → State
pend_return s place n = record s { pending = s.pending ++ record { place = place; effect = Returns n } ∷ [] }

-- a task whose CPU went is moved before its enqueue
abbrev pub pend_offline : State → ProbedLine → State
pend_offline s place = record s { pending = s.pending ++ record { place = place; effect = MovesOffline } ∷ [] }

-- timers
abbrev pub own_timer : State → ℕ → ℕ → State
own_timer s address n = record s { timers = set_of s.timers address n }

abbrev pub without_timer_to_arm : State → ℕ → State
without_timer_to_arm s i = record s { timers_to_arm = if nat_lt i (length s.timers_to_arm) then remove s.timers_to_arm i else s.timers_to_arm }

-- a CPU that dequeues a task of before the record
abbrev pub with_older : State → ℕ → ℕ → State
with_older s x n = record s { older_dequeues = s.older_dequeues ++ record { by = x; entity = n } ∷ [] }

-- dl_server_apply_params
abbrev pub queue_opened : State → ℕ → State
queue_opened s cpu = keep_runqueue s (record (runqueue_of s cpu) { this_bw = None; running_bw = None; open_until = s.open_until })

abbrev pub sap_opened : State → ℕ → State
sap_opened s cpu = queue_opened (opened s) cpu

-- rq_attach_root, sched_cpu_activate, sched_cpu_deactivate
abbrev pub processor_by : Option Processor → ℕ → Processor
processor_by None cpu = record { cpu = cpu; domain = None; is_active = true; capacity = None }
processor_by (Some p) cpu = p

abbrev pub processor_of : State → ℕ → Processor
processor_of s cpu = processor_by (found_at s.processors (position (is_processor cpu) s.processors)) cpu

abbrev pub keep_processor : State → Processor → State
keep_processor s p = record s { processors = put_at s.processors (position (is_processor p.cpu) s.processors) p }

abbrev pub with_domain : State → ℕ → ℕ → State
with_domain s cpu number = keep_processor s (record (processor_of s cpu) { domain = Some number })

abbrev pub with_active : State → ℕ → Bool → State
with_active s cpu active = keep_processor s (record (processor_of s cpu) { is_active = active })
