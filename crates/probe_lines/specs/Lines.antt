-- The fourth move of a run: the next line.
use Rattle.std.specs.Prelude.{ℕ, Bool, true, false, not, ◌&&◌, ◌||◌, ◌==◌, if◌then◌else◌, Option, Some, None, List, [], ◌∷◌, is_none}
use Rattle.std.specs.List.{list_any, list_all}
use Rattle.trace_data.specs.declared.probe.Probe.{Probe}
use Rattle.trace_data.specs.declared.probe.Probe.TheVariants.{Enqueued as EnqueuedLine, Updated as UpdatedLine, Dequeued as DequeuedLine, Migrating as MigratingLine, LeftClass as LeftLine, Admitted as AdmittedLine, ZeroLagFired as ZeroLagFiredLine, ReplenishFired as ReplenishFiredLine, Armed as ArmedLine, ServerStarted as ServerStartedLine, Picked as PickedLine, ServerStopped as ServerStoppedLine, ServerIdled as ServerIdledLine, Mark as MarkLine}
use Rattle.kernel_rules.specs.declared.flags.TheConstants.{REPLENISH}
use Rattle.kernel_rules.specs.Clock.{contains_bits}
use Rattle.probe_findings.specs.declared.words.ProbedLine.{ProbedLine}
use Rattle.probe_run.specs.declared.rules.PlayRules.{PlayRules}
use Rattle.probe_run.specs.declared.waiting.Awaits.{Awaits}
use Rattle.probe_run.specs.declared.waiting.Awaits.TheVariants.{Charge, Enqueue, Nothing}
use Rattle.probe_run.specs.declared.waiting.PendingEffect.{PendingEffect}
use Rattle.probe_run.specs.declared.waiting.Claim.{Claim}
use Rattle.probe_run.specs.declared.waiting.TimerToArm.{TimerToArm}
use Rattle.probe_run.specs.declared.waiting.OpenDequeue.{OpenDequeue}
use Rattle.probe_run.specs.State.{State}
use Rattle.probe_run.specs.Counting.{where_it_holds}
use Rattle.probe_run.specs.Moves.{is_claim_by}
use Rattle.probe_run.specs.Begin.{is_of_cpu, begun, moves_offline}
use Rattle.probe_tasks.specs.declared.choice.LineChoice.{LineChoice}
use Rattle.probe_tasks.specs.Enqueues.{enqueued_by}
use Rattle.probe_tasks.specs.Runs.{updated_by}
use Rattle.probe_tasks.specs.Tasks.{dequeued_by, migrating_by, left_by, admitted_by}
use Rattle.probe_lines.specs.Timers.{zero_lag_fired_by, replenish_fired_by, armed_by}
use Rattle.probe_lines.specs.Servers.{started_by, picked_by, stopped_by, does_nothing}
use Rattle.probe_lines.specs.Marks.{marked_by}

-- the line within a dequeue before which its rest does not come
abbrev pub follows_by : OpenDequeue → Awaits → Probe → Bool
follows_by w Charge (UpdatedLine u) = (u.pid == w.current) && (u.cpu == w.cpu)
follows_by w Charge _ = false
follows_by w Enqueue (EnqueuedLine e) = (e.pid == w.current) && contains_bits e.flags REPLENISH
follows_by w Enqueue _ = false
follows_by w Nothing _ = false

abbrev pub waits_for : ℕ → Probe → OpenDequeue → Bool
waits_for x probe w = not (w.place.cpu == x) || follows_by w w.awaits probe

abbrev pub came_early : ℕ → Probe → OpenDequeue → Bool
came_early x probe w = (w.place.cpu == x) && follows_by w Charge probe

abbrev pub is_effect_by : ℕ → PendingEffect → Bool
is_effect_by x p = (p.place.cpu == x) && not (moves_offline p.effect)

abbrev pub is_timer_to_arm_by : ℕ → TimerToArm → Bool
is_timer_to_arm_by x y = y.place.cpu == x

abbrev pub is_armed : Probe → Bool
is_armed (ArmedLine m) = true
is_armed _ = false

-- marks, and stops of a server that does nothing
abbrev pub is_mark : State → Probe → Bool
is_mark s (MarkLine m) = true
is_mark s (ServerStoppedLine l) = does_nothing s l
is_mark s _ = false

-- charges of fair servers are not followed
abbrev pub is_passed_over : Probe → Bool
is_passed_over (UpdatedLine u) = u.is_server
is_passed_over (ServerIdledLine l) = true
is_passed_over _ = false

abbrev pub is_charge : Probe → Bool
is_charge (UpdatedLine u) = true
is_charge _ = false

-- of the CPU that writes the line nothing is pending, all that it has read has had its point, its dequeue is done or waits for this line,
-- its timers are armed
abbrev pub calls_are_done : State → ℕ → Probe → Bool
calls_are_done s x probe =
    not (list_any (is_effect_by x) s.pending) && not (list_any (is_claim_by x) s.claims)
    && (list_all (waits_for x probe) s.open_dequeues && not (list_any (came_early x probe) s.early))

abbrev pub timers_are_armed : State → ℕ → Probe → Bool
timers_are_armed s x probe = is_armed probe || is_mark s probe || not (list_any (is_timer_to_arm_by x) s.timers_to_arm)

abbrev pub is_free_for : State → ℕ → Probe → Bool
is_free_for s x probe = calls_are_done s x probe && timers_are_armed s x probe

-- whether this CPU has written but lines of charges and timers, of a record that begins amid tasks
abbrev pub is_first_of : PlayRules → State → ℕ → Bool
is_first_of t s x = t.begins_amid && not (list_any (is_of_cpu x) s.wrote)

abbrev pub before_line : State → ProbedLine → Probe → State
before_line s place probe = begun s place.cpu place.at (not (is_armed probe || is_mark s probe)) (not (is_armed probe || is_charge probe))

abbrev pub none_chosen : LineChoice → Bool
none_chosen c = is_none c.extra_bw && (is_none c.late && is_none c.cost)

-- what a line leaves open: a charge its extra_bw and cost, an enqueue its late clock, any other nothing
abbrev pub choice_fits : Probe → LineChoice → Bool
choice_fits (UpdatedLine u) c = is_none c.late
choice_fits (EnqueuedLine e) c = is_none c.extra_bw && is_none c.cost
choice_fits _ c = none_chosen c

-- what a line shows of its function, by its kind
abbrev pub played_by : PlayRules → State → ProbedLine → Probe → LineChoice → Bool → Option State
played_by t s place (EnqueuedLine e) c first = enqueued_by t s place e c.late
played_by t s place (UpdatedLine u) c first = updated_by t s place u c (s.tasks u.pid)
played_by t s place (DequeuedLine d) c first = dequeued_by s place d
played_by t s place (MigratingLine m) c first = Some (migrating_by s place m)
played_by t s place (LeftLine l) c first = left_by t s place l
played_by t s place (AdmittedLine m) c first = Some (admitted_by s place m)
played_by t s place (ZeroLagFiredLine timer) c first = Some (zero_lag_fired_by s place (s.timers timer))
played_by t s place (ReplenishFiredLine timer served_by) c first = Some (replenish_fired_by s place (s.timers timer) served_by)
played_by t s place (ArmedLine m) c first = armed_by t s place m first
played_by t s place (ServerStartedLine l) c first = started_by s place l
played_by t s place (PickedLine l) c first = picked_by t s place l
played_by t s place (ServerStoppedLine l) c first = if does_nothing s l then Some s else stopped_by t s place l
played_by t s place (ServerIdledLine l) c first = Some s
played_by t s place (MarkLine m) c first = Some (marked_by s m)

abbrev pub checked_line_of : PlayRules → State → ProbedLine → Probe → LineChoice → Option State
checked_line_of t s place probe c =
    if is_free_for s place.cpu probe && choice_fits probe c
    then played_by t (before_line s place probe) place probe c (is_first_of t s place.cpu)
    else None

abbrev pub line_of : PlayRules → State → ProbedLine → Probe → LineChoice → Option State
line_of t s place probe c = if is_passed_over probe then Some s else checked_line_of t s place probe c
