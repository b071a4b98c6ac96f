-- What each line of an event leaves in a record.
use Rattle.std.specs.Prelude.{ℕ, ◌+◌, ◌-◌, ◌^◌, min, Bool, true, false, not, ◌&&◌, ◌||◌, nat_eq, nat_le, ◌==◌, if◌then◌else◌, List, [], ◌∷◌, ◌++◌, length, Option, Some, None, is_none, slice_get, slice_set}
use Rattle.std.specs.Map.{update}
use Rattle.trace_data.specs.declared.fixed.Fixed.{Fixed}
use Rattle.trace_data.specs.declared.fixed.Fixed.TheVariants as said
use Rattle.trace_data.specs.declared.fixed.Stop.{Stop}
use Rattle.trace_data.specs.declared.fixed.TimerFunction.{TimerFunction}
use Rattle.trace_data.specs.declared.fixed.TimerFunction.TheVariants.{ZeroLag, Replenish, Other}
use Rattle.timer_record.specs.declared.before.Before.{Before}
use Rattle.timer_record.specs.declared.before.Before.TheVariants as before
use Rattle.timer_record.specs.declared.event.KeptEvent.{KeptEvent}
use Rattle.timer_record.specs.declared.event.KeptEvent.TheVariants.{Idles, Woken, OtherWoken, Migrated, Ran, Switched, ZeroLagStarted, ReplenishStarted, Cancelled, ZeroLagFired, ReplenishFired}
use Rattle.timer_record.specs.declared.event.KeptLine.{KeptLine}
use Rattle.timer_record.specs.declared.lines.TaskLines.{TaskLines}
use Rattle.timer_record.specs.declared.lines.Unlisted.{Unlisted}
use Rattle.timer_record.specs.declared.moment.Passing.{Passing}
use Rattle.timer_record.specs.declared.record.KeptPlace.{KeptPlace}
use Rattle.timer_record.specs.declared.record.TimerPlace.{TimerPlace}
use Rattle.timer_record.specs.Kept.{Kept, before_is, changed, counted, handed_in, handed_to, keeps, place_in, placed_in, with_address, with_passing, with_task, with_timer}
use Rattle.timer_record.specs.Timers.{started_after, with_line_of, with_start_of, with_wake_of}
use Rattle.timer_record.specs.Votes.{voted}
use Rattle.timer_record.specs.Moments.{calling_of, charged_of, returned_of, switched_of, wake_clock_of}

-- the last line that is kept says no more than that this CPU idles
abbrev pub idles_at : ℕ → ℕ → KeptEvent → Bool
idles_at cpu of Idles = of == cpu
idles_at cpu of event = false

abbrev pub idles_by : ℕ → Option KeptLine → Bool
idles_by cpu (Some last) = idles_at cpu last.cpu last.event
idles_by cpu None = false

abbrev pub idles_already : ℕ → List KeptLine → Bool
idles_already cpu kept = idles_by cpu (slice_get kept (length kept - 1))

-- a line that says no more than that a CPU idles: one of many in a row is kept, where it is wanted
unfoldable pub idled_in : KeptPlace → Kept → Kept
idled_in place k =
    if k.wants_idle && place.is_idle && not (idles_already place.cpu k.kept) then keeps place Idles k else k

-- what is known of the task of a number, where there is one
abbrev pub passing_by : Option ℕ → (Passing → Passing) → Kept → Kept
passing_by (Some n) f k = with_passing f n k
passing_by None f k = k

-- sys_enter_sched_setattr, by the task of this pid
abbrev pub called_in : ℕ → Kept → Kept
called_in pid k = passing_by (k.numbers pid) calling_of k

-- sys_exit_sched_setattr
abbrev pub returned_in : ℕ → Kept → Kept
returned_in pid k = passing_by (k.numbers pid) returned_of k

-- a task that has a reservation is switched out
abbrev pub out_in : Option ℕ → Bool → Stop → Kept → Kept
out_in number deadline stop k = passing_by number (λ p. switched_of p deadline stop) k

abbrev pub is_deadline_by : Option Passing → Bool
is_deadline_by (Some p) = p.is_deadline
is_deadline_by None = false

abbrev pub is_deadline_at : ℕ → Kept → Bool
is_deadline_at n k = is_deadline_by (slice_get k.passing n)

-- the wake of a task of the class follows the start of a timer
abbrev pub claimed_by : Before → ℕ → Kept → Kept
claimed_by (before.Started timer) n k = if is_deadline_at n k then with_timer (λ t. with_wake_of t n) timer k else k
claimed_by (before.Charged task) n k = k
claimed_by before.Nothing n k = k

-- a task of the class without a reservation wakes: the line of its first wake is known by its pid
abbrev pub met_by : Option ℕ → ℕ → ℕ → Kept → Kept
met_by (Some first) line pid k = record k { boosted = counted k.boosted }
met_by None line pid k = record k { boosted = counted k.boosted; strangers = update nat_eq k.strangers pid (Some line) }

unfoldable pub met_in : ℕ → ℕ → Kept → Kept
met_in line pid k = met_by (k.strangers pid) line pid k

-- of two such tasks with a 0-lag timer, the one that woke first
abbrev pub first_by : Option Unlisted → Unlisted → Unlisted
first_by (Some one) other = if nat_le one.line other.line then one else other
first_by None other = other

-- a 0-lag timer is started while such a task runs
abbrev pub suspected_by : Option ℕ → ℕ → Kept → Kept
suspected_by (Some line) pid k = record k { unlisted = Some (first_by k.unlisted (record { line = line; pid = pid })) }
suspected_by None pid k = k

unfoldable pub suspected_in : ℕ → Kept → Kept
suspected_in pid k = suspected_by (k.strangers pid) pid k

-- a task of the class wakes on a CPU: its first charge will tell its clock
unfoldable pub woken_as : KeptPlace → ℕ → ℕ → Kept → Kept
woken_as place n cpu k = keeps place (Woken n cpu place.at) (with_passing (λ p. record p { woken = Some (length k.kept) }) n k)

-- sched_wakeup of a task that has this number or none, behind what the line before on its CPU told
abbrev pub woken_by : Option ℕ → KeptPlace → ℕ → Bool → ℕ → Before → Kept → Kept
woken_by None place pid deadline cpu b k = if deadline then idled_in place (met_in place.line pid k) else keeps place (OtherWoken cpu) k
woken_by (Some n) place pid deadline cpu b k = if deadline then woken_as place n cpu (claimed_by b n k) else keeps place (OtherWoken cpu) (claimed_by b n k)

unfoldable pub woken_behind : KeptPlace → ℕ → Bool → ℕ → Before → Kept → Kept
woken_behind place pid deadline cpu b k = woken_by (k.numbers pid) place pid deadline cpu b k

abbrev pub woken_in : KeptPlace → ℕ → Bool → ℕ → Kept → Kept
woken_in place pid deadline cpu k = woken_behind place pid deadline cpu (k.before place.cpu) (before_is place.cpu before.Nothing k)

-- sched_migrate_task
abbrev pub migrated_by : Option ℕ → KeptPlace → Bool → ℕ → Kept → Kept
migrated_by (Some n) place deadline cpu k = if deadline then keeps place (Migrated n cpu) k else idled_in place k
migrated_by None place deadline cpu k = idled_in place k

unfoldable pub moved_in : KeptPlace → ℕ → Bool → ℕ → Kept → Kept
moved_in place pid deadline cpu k = migrated_by (k.numbers pid) place deadline cpu k

abbrev pub migrated_in : KeptPlace → ℕ → Bool → ℕ → Kept → Kept
migrated_in place pid deadline cpu k = moved_in place pid deadline cpu (before_is place.cpu before.Nothing k)

-- a charge tells the clock of the wake before it
abbrev pub clocked_event : ℕ → ℕ → KeptEvent → KeptEvent
clocked_event charged nanos (Woken task cpu clock) = Woken task cpu (wake_clock_of clock charged nanos)
clocked_event charged nanos event = event

abbrev pub clocked_of : ℕ → ℕ → KeptLine → KeptLine
clocked_of charged nanos l = record l { event = clocked_event charged nanos l.event }

abbrev pub clocked_by : Option ℕ → ℕ → ℕ → List KeptLine → List KeptLine
clocked_by (Some woken) charged nanos kept = changed (clocked_of charged nanos) woken kept
clocked_by None charged nanos kept = kept

abbrev pub charged_by : Option Passing → ℕ → ℕ → ℕ → Kept → Kept
charged_by (Some p) n at nanos k = record k { passing = slice_set k.passing n (charged_of p at); kept = clocked_by p.woken at nanos k.kept }
charged_by None n at nanos k = k

unfoldable pub charged_in : ℕ → ℕ → ℕ → Kept → Kept
charged_in n at nanos k = charged_by (slice_get k.passing n) n at nanos k

-- what a charge tells of the next line on its CPU
abbrev pub told_by_charge : ℕ → Bool → Before
told_by_charge n true = before.Charged n
told_by_charge n false = before.Nothing

unfoldable pub run_kept : KeptPlace → ℕ → ℕ → Kept → Kept
run_kept place n nanos k = keeps place (Ran n nanos) (before_is place.cpu (told_by_charge n (is_deadline_at n k)) k)

-- sched_stat_runtime
abbrev pub ran_by : Option ℕ → KeptPlace → ℕ → Kept → Kept
ran_by None place nanos k = idled_in place (before_is place.cpu before.Nothing k)
ran_by (Some n) place nanos k = run_kept place n nanos (charged_in n place.at nanos k)

unfoldable pub ran_in : KeptPlace → ℕ → ℕ → Kept → Kept
ran_in place pid nanos k = ran_by (k.numbers pid) place nanos k

-- inactive_task_timer is started while this task runs: one more vote that it is the task's own
abbrev pub lagged_by : Option ℕ → ℕ → ℕ → Kept → Kept
lagged_by (Some n) pid timer k = with_task (λ t. record t { zero_lag_timer = voted t.zero_lag_timer timer }) n k
lagged_by None pid timer k = suspected_in pid k

unfoldable pub lag_started_at : KeptPlace → ℕ → ℕ → ℕ → Kept → Kept
lag_started_at place pid timer expires k = keeps place (ZeroLagStarted timer (k.numbers pid) expires) (lagged_by (k.numbers pid) pid timer k)

unfoldable pub lag_started_in : KeptPlace → ℕ → ℕ → ℕ → Kept → Kept
lag_started_in place pid address expires k = lag_started_at place pid (place_in address k).timer expires (placed_in address k)

abbrev pub zero_lag_started_in : KeptPlace → ℕ → ℕ → ℕ → Kept → Kept
zero_lag_started_in place pid address expires k = lag_started_in place pid address expires (before_is place.cpu before.Nothing k)

-- the task whose charge is the line before
abbrev pub charged_before : Before → Option ℕ
charged_before (before.Charged task) = Some task
charged_before (before.Started timer) = None
charged_before before.Nothing = None

-- dl_task_timer is started
unfoldable pub replenish_started_at : KeptPlace → TimerPlace → ℕ → Kept → Kept
replenish_started_at place there expires k =
    let charged = charged_before (k.before place.cpu) in
    keeps place (ReplenishStarted there.timer expires) (before_is place.cpu (before.Started there.timer)
    (with_timer (λ t. started_after t charged) there.timer
    (with_address (λ a. with_start_of a place.cpu (expires - place.at) charged) there.address k)))

unfoldable pub started_at : KeptPlace → ℕ → TimerPlace → ℕ → Kept → Kept
started_at place address there expires k = replenish_started_at place (handed_to there k) expires (handed_in address there k)

unfoldable pub replenish_started_in : KeptPlace → ℕ → ℕ → Kept → Kept
replenish_started_in place address expires k = started_at place address (place_in address k) expires (placed_in address k)

-- hrtimer_cancel
unfoldable pub cancelled_at : KeptPlace → TimerPlace → Kept → Kept
cancelled_at place there k =
    let m = with_address with_line_of there.address k in
    if k.wants_cancels then keeps place (Cancelled there.timer) m else m

unfoldable pub cancelled_in : KeptPlace → ℕ → Kept → Kept
cancelled_in place address k = cancelled_at place (place_in address k) (placed_in address k)

-- hrtimer_expire_entry
abbrev pub fired_at : KeptPlace → TimerPlace → TimerFunction → Kept → Kept
fired_at place there ZeroLag k = keeps place (ZeroLagFired there.timer) (with_address with_line_of there.address k)
fired_at place there Replenish k = keeps place (ReplenishFired there.timer) (with_address with_line_of there.address k)
fired_at place there Other k = k

unfoldable pub fired_of : KeptPlace → ℕ → TimerFunction → Kept → Kept
fired_of place address Other k = k
fired_of place address function k = fired_at place (place_in address k) function (placed_in address k)

abbrev pub fired_in : KeptPlace → ℕ → TimerFunction → Kept → Kept
fired_in place address function k = fired_of place address function (before_is place.cpu before.Nothing k)

-- sched_switch: the CPU idles if it did before, or if the idle task stops to run
abbrev pub switched_by : Option ℕ → KeptPlace → Bool → Stop → Bool → Kept → Kept
switched_by number place deadline stop next_idle k =
    let m = out_in number deadline stop k in
    if is_none number && not (deadline && next_idle) then idled_in place m else keeps place (Switched number deadline stop next_idle) m

unfoldable pub switched_at : KeptPlace → ℕ → Bool → Stop → Bool → Kept → Kept
switched_at place pid deadline stop next_idle k = switched_by (k.numbers pid) place deadline stop next_idle k

abbrev pub switched_in : KeptPlace → ℕ → Bool → Stop → ℕ → Kept → Kept
switched_in place pid deadline stop next k =
    switched_at (record place { is_idle = place.is_idle || (pid == 0) }) pid deadline stop (next == 0) (before_is place.cpu before.Nothing k)

-- a timer of any function is started
abbrev pub started_in : KeptPlace → ℕ → ℕ → TimerFunction → ℕ → Kept → Kept
started_in place pid address ZeroLag expires k = zero_lag_started_in place pid address expires k
started_in place pid address Replenish expires k = replenish_started_in place address expires k
started_in place pid address Other expires k = before_is place.cpu before.Nothing k

-- a line of an event, while the task of this pid runs
abbrev pub passed_in : KeptPlace → ℕ → Fixed → Kept → Kept
passed_in place pid (said.Woken woken deadline cpu) k = woken_in place woken deadline cpu k
passed_in place pid (said.Migrated moved deadline cpu) k = migrated_in place moved deadline cpu k
passed_in place pid (said.Ran charged nanos) k = ran_in place charged nanos k
passed_in place pid (said.Switched stopped deadline stop next next_deadline) k = switched_in place stopped deadline stop next k
passed_in place pid (said.TimerStarted timer function expires) k = started_in place pid timer function expires k
passed_in place pid (said.TimerCancelled timer) k = cancelled_in place timer k
passed_in place pid (said.TimerFired timer function tick now) k = fired_in place timer function k
passed_in place pid said.PolicyCalled k = before_is place.cpu before.Nothing (called_in pid k)
passed_in place pid said.PolicyReturned k = before_is place.cpu before.Nothing (returned_in pid k)
