-- Lines of a task that stops, moves or changes its class: dequeue_task_dl, migrate_task_rq_dl, switched_from_dl, sched_dl_overflow.
use Rattle.std.specs.Prelude.{ℕ, ◌/◌, ◌^◌, ◌+◌, Bool, true, false, not, ◌&&◌, ◌||◌, ◌==◌, if◌then◌else◌, Option, Some, None, unwrap_or, List, [], ◌∷◌, ◌++◌, filter, length}
use Rattle.std.specs.List.{list_any, sum_by}
use Rattle.trace_data.specs.declared.probe.Dequeued.{Dequeued}
use Rattle.trace_data.specs.declared.probe.Migrating.{Migrating}
use Rattle.trace_data.specs.declared.probe.LeftClass.{LeftClass}
use Rattle.trace_data.specs.declared.probe.Admitted.{Admitted}
use Rattle.kernel_rules.specs.declared.flags.TheConstants.{DEADLINE_POLICY}
use Rattle.kernel_rules.specs.Clock.{times, contains_bits}
use Rattle.kernel_rules.specs.Reservation.{cleared_of}
use Rattle.kernel_rules.specs.declared.delays.Delayed.TheVariants.{Moved}
use Rattle.kernel_rules.specs.Leave.{outside_of}
use Rattle.kernel_rules.specs.Admit.{wanted_of}
use Rattle.probe_findings.specs.declared.words.ProbedLine.{ProbedLine}
use Rattle.probe_run.specs.declared.actor.Actor.{Actor}
use Rattle.probe_run.specs.declared.rules.PlayRules.{PlayRules}
use Rattle.probe_run.specs.declared.rules.Processor.{Processor}
use Rattle.probe_run.specs.declared.waiting.UnlockedSum.TheVariants.{TotalBw}
use Rattle.probe_run.specs.declared.waiting.Awaits.TheVariants.{Charge}
use Rattle.probe_run.specs.State.{State, actor_at, keep_at, task_number, with_task, with_new_task}
use Rattle.probe_run.specs.Special.{is_special, reservation_of}
use Rattle.probe_run.specs.Sums.{change, forget, forget_all, forget_unlocked, share_in, block_in, domain_of, domain_capacity, is_member}
use Rattle.probe_run.specs.Counting.{where_it_holds}
use Rattle.probe_run.specs.Handlers.{handler_runs, leaving_while, admitting_while}
use Rattle.probe_run.specs.Begin.{claim_in, sums_read, begin_open_dequeue, pend_lock}
use Rattle.probe_values.specs.Shown.{sums_agree, dequeued_agrees, dequeued_shown, left_agrees, left_shown, yielded_by}
use Rattle.probe_tasks.specs.Enqueues.{yields_throttled}

-- dequeue_task_dl, up to the charge within it; the task may have yielded while it was throttled
abbrev pub before_dequeue : Actor → Dequeued → Actor
before_dequeue a d = yielded_by a (yields_throttled a d.budget.is_yielded)

abbrev pub dequeued_next : State → ProbedLine → ℕ → Actor → Dequeued → State
dequeued_next s place n a d =
    begin_open_dequeue (keep_at (sums_read s place d.cpu d.sums) n (dequeued_shown a d))
    (record { place = place; entity = n; cpu = d.cpu; flags = d.flags; on_rq = d.on_rq; clock = d.clock; current = d.current; awaits = Charge })

abbrev pub dequeued_with : State → ProbedLine → ℕ → Dequeued → Option State
dequeued_with s place n d =
    let a = before_dequeue (actor_at s n) d in
    where_it_holds (sums_agree s d.cpu d.sums && dequeued_agrees a d) (dequeued_next s place n a d)

abbrev pub dequeued_by : State → ProbedLine → Dequeued → Option State
dequeued_by s place d = dequeued_with (with_task s d.pid) place (task_number s d.pid) d

-- migrate_task_rq_dl, before its lock; 512 is TASK_WAKING
abbrev pub migrating_actor : State → ProbedLine → ℕ → Actor → State
migrating_actor s place n a =
    if not a.knows_parameters then forget_all s
    else (if not a.entity.is_in_class || (a.entity.parameters.dl_runtime == 0) then s else pend_lock s place a.cpu n Moved)

abbrev pub migrating_with : State → ProbedLine → Option ℕ → State
migrating_with s place None = forget_all s
migrating_with s place (Some n) = migrating_actor s place n (actor_at s n)

abbrev pub migrating_by : State → ProbedLine → Migrating → State
migrating_by s place m = if m.state == 512 then migrating_with s place (s.tasks m.pid) else s

-- switched_from_dl
abbrev pub left_known : PlayRules → State → ProbedLine → ℕ → LeftClass → Actor → State
left_known t s place n l a =
    let done = leaving_while (handler_runs s n) a.entity l.on_rq l.clock in
    if is_special a.entity then keep_at s n (record a { entity = record (outside_of a.entity) { is_non_contending = false } })
    else block_in t (change (keep_at s n (record a { entity = done.entity })) l.cpu done.change) place n a.cpu done.change done.block

abbrev pub left_unknown : State → ProbedLine → ℕ → LeftClass → Actor → State
left_unknown s place n l a =
    let out = forget (keep_at s n (record a { entity = outside_of a.entity })) l.cpu in
    record out { older_dequeues = out.older_dequeues ++ record { by = place.cpu; entity = n } ∷ [] }

abbrev pub left_shown_by : PlayRules → State → ProbedLine → ℕ → LeftClass → Bool → Actor → State
left_shown_by t s place n l known shown = if known then left_known t s place n l shown else left_unknown s place n l shown

abbrev pub left_next : PlayRules → State → ProbedLine → ℕ → Actor → LeftClass → State
left_next t s place n a l = left_shown_by t (sums_read s place l.cpu l.sums) place n l a.knows_parameters (left_shown a l)

abbrev pub left_with : PlayRules → State → ProbedLine → ℕ → LeftClass → Option State
left_with t s place n l =
    let a = actor_at s n in
    where_it_holds (sums_agree s l.cpu l.sums && left_agrees a l) (left_next t s place n a l)

abbrev pub left_by : PlayRules → State → ProbedLine → LeftClass → Option State
left_by t s place l = left_with t (with_task s l.pid) place (task_number s l.pid) l

-- sched_dl_overflow, and what of sched_setattr follows under the same lock; the pid of a task that has ended is another task's
abbrev pub total_read : State → ProbedLine → Option ℕ → ℕ → State
total_read s place None total = s
total_read s place (Some number) total = if list_any (is_member number) s.processors then claim_in s place (TotalBw number) total else s

abbrev pub starts_anew : Actor → Admitted → Bool
starts_anew a m = a.entity.is_dead && not (m.policy_before == DEADLINE_POLICY)

abbrev pub living_state : State → ℕ → Admitted → Actor → State
living_state s n m a = if starts_anew a m then with_new_task s m.pid a.whose else s

abbrev pub living_number : State → ℕ → Admitted → Actor → ℕ
living_number s n m a = if starts_anew a m then length s.actors else n

abbrev pub known_by : Actor → ℕ → Actor
known_by a cpu =
    if a.knows_parameters then record a { cpu = cpu }
    else record a { entity = cleared_of a.entity; knows_parameters = true; knows_contending = true; cpu = cpu }

-- the room of a root domain: the limit of each of its CPUs, by their capacities
abbrev pub room_of : State → Admitted → ℕ
room_of s m = times m.limit (domain_capacity s.processors (domain_of s.processors m.cpu)) / 2 ^ 10

abbrev pub admitted_ordinary : State → ProbedLine → ℕ → Admitted → Actor → State
admitted_ordinary s place n m a =
    let done = admitting_while (handler_runs s n) a.entity m (room_of s m) in
    share_in (change (keep_at s n (record a { entity = done.entity })) m.cpu done.change) place m.cpu done.change

-- a thread of schedutil is admitted unseen
abbrev pub admitted_unseen : State → ℕ → Admitted → Actor → State
admitted_unseen s n m a = keep_at s n (record a { entity = record (reservation_of a.entity (wanted_of m)) { is_in_class = true } })

abbrev pub admitted_known : State → ProbedLine → ℕ → Admitted → Actor → State
admitted_known s place n m a = if contains_bits m.parameters.flags 268435456 then admitted_unseen s n m a else admitted_ordinary s place n m a

abbrev pub admitted_actor : State → ProbedLine → ℕ → Admitted → Actor → State
admitted_actor s place n m a =
    if not a.knows_parameters && (m.policy_before == DEADLINE_POLICY) then forget_unlocked (forget_all s)
    else admitted_known s place n m (known_by a m.cpu)

abbrev pub admitted_with : State → ProbedLine → ℕ → Admitted → State
admitted_with s place n m =
    let a = actor_at s n in
    let living = living_state s n m a in
    let number = living_number s n m a in
    admitted_actor living place number m (actor_at living number)

abbrev pub admitted_deadline : State → ProbedLine → Admitted → State
admitted_deadline s place m =
    let read = total_read s place (domain_of s.processors m.cpu) m.total_bw in admitted_with (with_task read m.pid) place (task_number read m.pid) m

abbrev pub admitted_by : State → ProbedLine → Admitted → State
admitted_by s place m = if m.policy == DEADLINE_POLICY then admitted_deadline s place m else s
