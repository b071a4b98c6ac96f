-- Lines of timers: inactive_task_timer, dl_task_timer, hrtimer_start_range_ns.
use Rattle.std.specs.Prelude.{ℕ, ℤ, int_lt, Bool, true, false, not, ◌&&◌, ◌||◌, ◌==◌, if◌then◌else◌, Option, Some, None, is_none, List, [], position, slice_get}
use Rattle.std.specs.Int.{w64, int_wrapping_sub}
use Rattle.std.specs.List.{list_any}
use Rattle.trace_data.specs.declared.fixed.TimerFunction.{TimerFunction}
use Rattle.trace_data.specs.declared.fixed.TimerFunction.TheVariants.{ZeroLag as ZeroLagTimer, Replenish, Other}
use Rattle.trace_data.specs.declared.quantities.Parameters.{Parameters}
use Rattle.trace_data.specs.declared.quantities.Donor.{Donor}
use Rattle.trace_data.specs.declared.probe.Armed.{Armed}
use Rattle.trace_data.specs.declared.probe.Expiry.{Expiry}
use Rattle.trace_data.specs.declared.probe.Expiry.TheVariants.{After, At}
use Rattle.kernel_rules.specs.Clock.{plus, signed}
use Rattle.kernel_rules.specs.declared.delays.Delayed.TheVariants.{ZeroLag}
use Rattle.kernel_rules.specs.Timer.{disarmed_of, replenish_fired_of}
use Rattle.probe_findings.specs.declared.words.ProbedLine.{ProbedLine}
use Rattle.probe_run.specs.declared.actor.Actor.{Actor}
use Rattle.probe_run.specs.declared.rules.PlayRules.{PlayRules}
use Rattle.probe_run.specs.declared.rules.Processor.{Processor}
use Rattle.probe_run.specs.declared.waiting.TimerToArm.{TimerToArm}
use Rattle.probe_run.specs.declared.waiting.OlderDequeue.{OlderDequeue}
use Rattle.probe_run.specs.State.{State, actor_at, keep_at, found_at}
use Rattle.probe_run.specs.Sums.{forget, forget_all, forget_unlocked}
use Rattle.probe_run.specs.Counting.{where_it_holds}
use Rattle.probe_run.specs.Begin.{pend_lock, pend_return, pend_offline, own_timer, without_timer_to_arm}
use Rattle.probe_values.specs.Shown.{same_signed, address_agrees}

-- inactive_task_timer, before its lock: from here on it runs
abbrev pub forget_past : State → Bool → State
forget_past s has_left = if has_left then forget_unlocked (forget_all s) else forget_all s

abbrev pub has_left : Actor → Bool
has_left a = not a.entity.is_in_class || a.entity.is_dead

abbrev pub fired_actor : State → ProbedLine → ℕ → Actor → State
fired_actor s place n a =
    let disarmed = record a { entity = disarmed_of a.entity } in
    if a.knows_parameters then pend_lock (keep_at s n disarmed) place a.cpu n ZeroLag
    else forget_past (keep_at s n (record disarmed { knows_contending = false })) (has_left a)

abbrev pub zero_lag_fired_by : State → ProbedLine → Option ℕ → State
zero_lag_fired_by s place None = forget_past s true
zero_lag_fired_by s place (Some n) = pend_return (fired_actor s place n (actor_at s n)) place n

-- dl_task_timer: pi_se may have changed while the task was blocked
abbrev pub own_parameters : Parameters → Donor
own_parameters p = record { dl_runtime = p.dl_runtime; dl_deadline = p.dl_deadline; dl_period = p.dl_period }

abbrev pub donor_kept : Option Donor → Parameters → Donor
donor_kept (Some donor) p = donor
donor_kept None p = own_parameters p

abbrev pub donor_by : Actor → Option ℕ → Option ℕ → Option Donor
donor_by a (Some served_by) (Some own) = if served_by == own then None else Some (donor_kept a.entity.donor a.entity.parameters)
donor_by a (Some served_by) None = a.entity.donor
donor_by a None own = a.entity.donor

-- its CPU went: before its enqueue dl_task_offline_migration gives its bandwidth back, and takes it again
abbrev pub is_inactive : ℕ → Processor → Bool
is_inactive cpu p = (p.cpu == cpu) && not p.is_active

abbrev pub goes_offline : State → Actor → Bool
goes_offline s a = a.entity.budget.is_throttled && (a.entity.is_queued && list_any (is_inactive a.cpu) s.processors)

abbrev pub offline_pending : State → ProbedLine → Bool → State
offline_pending s place goes = if goes then pend_offline s place else s

abbrev pub replenish_actor : State → ProbedLine → ℕ → Actor → Option ℕ → State
replenish_actor s place n a served_by =
    let entity = replenish_fired_of (record a.entity { donor = donor_by a served_by a.address }) in
    offline_pending (keep_at s n (record a { entity = entity })) place (goes_offline s a)

abbrev pub replenish_fired_by : State → ProbedLine → Option ℕ → Option ℕ → State
replenish_fired_by s place None served_by = s
replenish_fired_by s place (Some n) served_by = replenish_actor s place n (actor_at s n) served_by

-- hrtimer_start_range_ns
abbrev pub same_function : TimerFunction → TimerFunction → Bool
same_function ZeroLagTimer ZeroLagTimer = true
same_function ZeroLagTimer Replenish = false
same_function ZeroLagTimer Other = false
same_function Replenish ZeroLagTimer = false
same_function Replenish Replenish = true
same_function Replenish Other = false
same_function Other ZeroLagTimer = false
same_function Other Replenish = false
same_function Other Other = true

abbrev pub is_zero_lag : TimerFunction → Bool
is_zero_lag ZeroLagTimer = true
is_zero_lag Replenish = false
is_zero_lag Other = false

abbrev pub is_other : TimerFunction → Bool
is_other ZeroLagTimer = false
is_other Replenish = false
is_other Other = true

-- the timer was nobody's, its own, or of a task that has ended
abbrev pub owner_agrees : State → Option ℕ → ℕ → Bool
owner_agrees s None n = true
owner_agrees s (Some known) n = (known == n) || (actor_at s known).entity.is_dead

abbrev pub timer_address : Actor → TimerFunction → Option ℕ
timer_address a ZeroLagTimer = a.inactive_timer
timer_address a Replenish = a.deadline_timer
timer_address a Other = None

abbrev pub with_timer : Actor → TimerFunction → ℕ → Actor
with_timer a ZeroLagTimer address = record a { inactive_timer = Some address }
with_timer a Replenish address = record a { deadline_timer = Some address }
with_timer a Other address = a

-- a 0-lag time is the timer's: by its span, or by a moment of a clock between what armed it and its line, to a microsecond
abbrev pub fits_by : Expiry → ℕ → ℕ → ℤ → Bool
fits_by (After span) due at zero_lag = same_signed zero_lag span
fits_by (At moment) due at zero_lag =
    not (int_lt (int_wrapping_sub w64 moment zero_lag) (signed due))
    && int_lt (int_wrapping_sub w64 moment zero_lag) (signed (plus at 1000))

abbrev pub zero_lag_agrees : Option ℤ → Expiry → ℕ → ℕ → Bool
zero_lag_agrees None expiry due at = true
zero_lag_agrees (Some z) expiry due at = fits_by expiry due at z

abbrev pub is_timer_to_arm : ℕ → TimerFunction → TimerToArm → Bool
is_timer_to_arm x f y = (y.place.cpu == x) && same_function y.function f

abbrev pub is_older_by : ℕ → OlderDequeue → Bool
is_older_by x b = b.by == x

abbrev pub armed_next : State → Armed → ℕ → TimerToArm → Actor → State
armed_next s m i y a = own_timer (keep_at (without_timer_to_arm s i) y.entity (with_timer a m.function m.timer)) m.timer y.entity

abbrev pub armed_timer_to_arm : State → ProbedLine → Armed → ℕ → TimerToArm → Option State
armed_timer_to_arm s place m i y =
    let a = actor_at s y.entity in
    where_it_holds
    (owner_agrees s (s.timers m.timer) y.entity && (address_agrees (timer_address a m.function) m.timer && zero_lag_agrees y.zero_lag m.expiry y.at place.at))
    (armed_next s m i y a)

abbrev pub armed_actor : Actor → Actor
armed_actor a = record a { entity = record a.entity { has_inactive_timer = true } }

abbrev pub armed_of_older : State → Armed → OlderDequeue → State
armed_of_older s m b = own_timer (keep_at s b.entity (armed_actor (actor_at s b.entity))) m.timer b.entity

abbrev pub armed_older : State → Armed → Option OlderDequeue → Option State
armed_older s m None = None
armed_older s m (Some b) = Some (armed_of_older s m b)

-- a 0-lag timer that no line asked for: of a task of before the record, or before the first line of this CPU
abbrev pub armed_zero_lag : PlayRules → State → ProbedLine → Armed → Bool → Option State
armed_zero_lag t s place m first =
    if first && is_none (s.timers m.timer) then Some (forget s place.cpu) else armed_older s m (found_at s.older_dequeues (position (is_older_by place.cpu) s.older_dequeues))

abbrev pub armed_unasked : PlayRules → State → ProbedLine → Armed → Bool → Option State
armed_unasked t s place m first =
    if is_zero_lag m.function then armed_zero_lag t s place m first else where_it_holds (is_none (s.timers m.timer)) s

abbrev pub armed_found : PlayRules → State → ProbedLine → Armed → Bool → ℕ → Option TimerToArm → Option State
armed_found t s place m first i None = None
armed_found t s place m first i (Some y) = armed_timer_to_arm s place m i y

abbrev pub armed_at : PlayRules → State → ProbedLine → Armed → Bool → Option ℕ → Option State
armed_at t s place m first None = armed_unasked t s place m first
armed_at t s place m first (Some i) = armed_found t s place m first i (slice_get s.timers_to_arm i)

abbrev pub armed_by : PlayRules → State → ProbedLine → Armed → Bool → Option State
armed_by t s place m first =
    if is_other m.function then Some s else armed_at t s place m first (position (is_timer_to_arm place.cpu m.function) s.timers_to_arm)
