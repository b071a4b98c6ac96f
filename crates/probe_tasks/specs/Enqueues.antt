-- The line of enqueue_task_dl.
use Rattle.std.specs.Prelude.{ℕ, pos, int_le, Bool, true, false, not, ◌&&◌, ◌||◌, ◌==◌, if◌then◌else◌, Option, Some, None, List, is_some}
use Rattle.std.specs.List.{list_any}
use Rattle.trace_data.specs.declared.quantities.Parameters.{Parameters}
use Rattle.trace_data.specs.declared.probe.Enqueued.{Enqueued}
use Rattle.kernel_rules.specs.declared.sums.SumsChange.{SumsChange}
use Rattle.kernel_rules.specs.declared.flags.TheConstants.{WAKEUP, REPLENISH}
use Rattle.kernel_rules.specs.Clock.{plus, less, signed, comes_before, contains_bits}
use Rattle.probe_run.specs.Special.{reservation_of}
use Rattle.kernel_rules.specs.declared.delays.Delayed.{Delayed}
use Rattle.kernel_rules.specs.declared.delays.Delayed.TheVariants.{Moved, ZeroLag}
use Rattle.kernel_rules.specs.Enqueue.{enqueuing_of}
use Rattle.probe_findings.specs.declared.words.ProbedLine.{ProbedLine}
use Rattle.probe_run.specs.declared.actor.Actor.{Actor}
use Rattle.probe_run.specs.declared.rules.PlayRules.{PlayRules}
use Rattle.probe_run.specs.declared.waiting.Effect.{Effect}
use Rattle.probe_run.specs.declared.waiting.Effect.TheVariants.{Adds, Locks, Returns, MovesOffline}
use Rattle.probe_run.specs.declared.waiting.PendingEffect.{PendingEffect}
use Rattle.probe_run.specs.State.{State, actor_at, keep_at, task_number, with_task}
use Rattle.probe_run.specs.Sums.{change, opened, start_timer_in}
use Rattle.probe_run.specs.Counting.{where_it_holds}
use Rattle.probe_run.specs.Moves.{is_rest_by}
use Rattle.probe_run.specs.Begin.{sums_read}
use Rattle.probe_values.specs.Shown.{sums_agree, enqueued_agrees, enqueued_shown, keeps_new, yielded_by, address_agrees}

-- dl_task_offline_migration: its CPU went, and it is enqueued on another
abbrev pub is_reserved : Actor → Bool
is_reserved a = a.knows_parameters && not (a.entity.parameters.dl_runtime == 0)

abbrev pub went_offline : Actor → Enqueued → Bool
went_offline a l =
    contains_bits l.flags REPLENISH && a.entity.budget.is_throttled && a.entity.is_queued && is_reserved a && not (a.cpu == l.cpu)

abbrev pub all_of : ℕ → SumsChange
all_of bw = record { this_bw = bw; running_bw = bw; freed = None; taken = None }

abbrev pub offline_by : State → Actor → Enqueued → State
offline_by s a l =
    if went_offline a l then opened (change (change s a.cpu (all_of (less 0 a.entity.dl_bw))) l.cpu (all_of a.entity.dl_bw)) else s

-- switched_to_dl by a boost, of a task that left the class before its 0-lag time
abbrev pub is_boosted_back : Actor → Enqueued → Bool
is_boosted_back a l = int_le (pos 0) l.normal_prio && not (l.entity == l.served_by) && is_reserved a && not a.entity.is_in_class

abbrev pub disarmed : Actor → Bool → Actor
disarmed a back = if back then record a { entity = record a.entity { has_inactive_timer = false } } else a

abbrev pub back_by : State → Actor → Enqueued → State
back_by s a l =
    if is_boosted_back a l && contains_bits l.flags WAKEUP
    then change s l.cpu (record { this_bw = a.entity.dl_bw; running_bw = 0; freed = None; taken = None })
    else s

-- a task that was replenished while it was blocked, after the end of the period that this gave, at a clock that no line shows
abbrev pub may_be_late : Actor → Option ℕ → ℕ → Bool
may_be_late a None clock = true
may_be_late a (Some late) clock =
    a.entity.is_late && a.knows_budget && comes_before a.entity.budget.deadline late && not (comes_before clock late)

abbrev pub late_of : Actor → Option ℕ → Actor
late_of a None = record a { entity = record a.entity { is_late = false } }
late_of a (Some late) = record a {
  entity = record a.entity {
    is_late = false;
    budget = record a.entity.budget { runtime = signed a.entity.parameters.dl_runtime; deadline = plus late a.entity.parameters.dl_deadline };
  };
}

abbrev pub yields_throttled : Actor → Bool → Bool
yields_throttled a yielded = a.entity.budget.is_throttled && a.entity.is_queued && yielded

abbrev pub refreshed_by : Actor → Bool → Option Parameters → Actor
refreshed_by a within None = a
refreshed_by a within (Some p) = if within then a else record a { entity = reservation_of a.entity p }

abbrev pub refreshed_of : Actor → Enqueued → Option ℕ → Bool → Actor
refreshed_of a l late within =
    let known = late_of (disarmed a (is_boosted_back a l)) late in
    refreshed_by (yielded_by known (yields_throttled known l.budget.is_yielded)) within a.entity.new_parameters

-- a waking task is moved before it is enqueued
abbrev pub moves_by : ℕ → Effect → Bool
moves_by n (Adds sum amount) = false
moves_by n (Locks cpu m Moved) = n == m
moves_by n (Locks cpu m ZeroLag) = false
moves_by n (Returns m) = false
moves_by n MovesOffline = false

abbrev pub is_move_of : ℕ → PendingEffect → Bool
is_move_of n p = moves_by n p.effect

abbrev pub enqueued_may : State → ℕ → Actor → Enqueued → Option ℕ → Bool → Bool
enqueued_may s n a l late within =
    (sums_agree s l.cpu l.sums && (not (list_any (is_move_of n) s.pending) && may_be_late a late l.clock))
    && (address_agrees a.address l.entity && enqueued_agrees (refreshed_of a l late within) l)

abbrev pub enqueued_next : PlayRules → State → ProbedLine → ℕ → Actor → Enqueued → State
enqueued_next t s place n shown l =
    let done = enqueuing_of t.law shown.entity l in
    start_timer_in t (change (keep_at (sums_read s place l.cpu l.sums) n (record shown { entity = done.entity })) l.cpu done.change) place n done.starts_timer

abbrev pub enqueued_with : PlayRules → State → ProbedLine → ℕ → Actor → Enqueued → Option ℕ → Bool → Option State
enqueued_with t s place n a l late within =
    where_it_holds (enqueued_may s n a l late within)
    (enqueued_next t s place n (keeps_new within a (enqueued_shown (refreshed_of a l late within) l)) l)

-- before the comparison: what a CPU that went, and a boost, have done
abbrev pub arrived_by : State → Actor → Enqueued → State
arrived_by s a l = back_by (offline_by s a l) a l

abbrev pub is_within : State → ℕ → Bool
is_within s x = list_any (is_rest_by x) s.open_dequeues

abbrev pub enqueued_by : PlayRules → State → ProbedLine → Enqueued → Option ℕ → Option State
enqueued_by t s place l late =
    let n = task_number s l.pid in
    let known = with_task s l.pid in
    let a = actor_at known n in
    enqueued_with t (arrived_by known a l) place n a l late (is_within s place.cpu)
