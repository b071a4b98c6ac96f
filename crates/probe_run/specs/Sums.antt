-- What an event does to the sums, at its line or at a point of its own.
use Rattle.std.specs.Prelude.{ℕ, ◌+◌, nat_eq, nat_le, Bool, true, false, not, ◌&&◌, ◌||◌, ◌==◌, if◌then◌else◌, Option, Some, None, is_some, unwrap_or, List, [], ◌∷◌, ◌++◌, filter, map, length, position, slice_get}
use Rattle.std.specs.List.{list_any}
use Rattle.trace_data.specs.declared.fixed.TimerFunction.TheVariants.{ZeroLag as ZeroLagTimer, Replenish}
use Rattle.trace_data.specs.declared.quantities.Sums.{Sums}
use Rattle.probe_findings.specs.declared.words.ProbedLine.{ProbedLine}
use Rattle.kernel_rules.specs.declared.sums.SumsChange.{SumsChange}
use Rattle.kernel_rules.specs.declared.activity.Block.{Block}
use Rattle.kernel_rules.specs.declared.activity.Block.TheVariants.{Unreserved, ZeroLagTimer as WaitsForZeroLag, Past}
use Rattle.kernel_rules.specs.Clock.{plus, less}
use Rattle.kernel_rules.specs.Sums.{share_of}
use Rattle.probe_run.specs.declared.actor.Actor.{Actor}
use Rattle.probe_run.specs.declared.rules.PlayRules.{PlayRules}
use Rattle.probe_run.specs.declared.rules.Processor.{Processor}
use Rattle.probe_run.specs.declared.sums.Runqueue.{Runqueue}
use Rattle.probe_run.specs.declared.sums.RootDomain.{RootDomain}
use Rattle.probe_run.specs.declared.waiting.UnlockedSum.{UnlockedSum}
use Rattle.probe_run.specs.declared.waiting.UnlockedSum.TheVariants.{ExtraBw, TotalBw}
use Rattle.probe_run.specs.declared.waiting.Effect.TheVariants.{Adds}
use Rattle.probe_run.specs.declared.waiting.PendingEffect.{PendingEffect}
use Rattle.probe_run.specs.declared.waiting.Claim.{Claim}
use Rattle.probe_run.specs.State.{State, put_at, found_at, keep_at}

-- the runqueue of a CPU: what no line has shown is unknown
abbrev pub is_on : ℕ → Runqueue → Bool
is_on cpu q = q.cpu == cpu

abbrev pub unknown_runqueue : State → ℕ → Runqueue
unknown_runqueue s cpu = record { cpu = cpu; this_bw = None; running_bw = None; extra_bw = None; open_until = s.amid_until }

abbrev pub runqueue_of : State → ℕ → Runqueue
runqueue_of s cpu = unwrap_or (found_at s.runqueues (position (is_on cpu) s.runqueues)) (unknown_runqueue s cpu)

abbrev pub keep_runqueue : State → Runqueue → State
keep_runqueue s q = record s { runqueues = put_at s.runqueues (position (is_on q.cpu) s.runqueues) q }

-- the root domain of a number
abbrev pub is_domain : ℕ → RootDomain → Bool
is_domain number d = d.number == number

abbrev pub root_domain_of : State → ℕ → RootDomain
root_domain_of s number = unwrap_or (found_at s.domains (position (is_domain number) s.domains)) (record { number = number; total_bw = None })

abbrev pub keep_domain : State → RootDomain → State
keep_domain s d = record s { domains = put_at s.domains (position (is_domain d.number) s.domains) d }

-- a sum that is read without its lock
abbrev pub sum_of : State → UnlockedSum → Option ℕ
sum_of s (ExtraBw cpu) = (runqueue_of s cpu).extra_bw
sum_of s (TotalBw number) = (root_domain_of s number).total_bw

abbrev pub put_sum : State → UnlockedSum → Option ℕ → State
put_sum s (ExtraBw cpu) value = keep_runqueue s (record (runqueue_of s cpu) { extra_bw = value })
put_sum s (TotalBw number) value = keep_domain s (record { number = number; total_bw = value })

-- what is unknown stays so
abbrev pub moved : Option ℕ → ℕ → Option ℕ
moved None by = None
moved (Some n) by = Some (plus n by)

-- __add_rq_bw, __sub_rq_bw, __add_running_bw, __sub_running_bw
abbrev pub changed_runqueue : Runqueue → SumsChange → Runqueue
changed_runqueue q c = record q { this_bw = moved q.this_bw c.this_bw; running_bw = moved q.running_bw c.running_bw }

abbrev pub change : State → ℕ → SumsChange → State
change s cpu c = keep_runqueue s (changed_runqueue (runqueue_of s cpu) c)

-- something of before the record plays in
abbrev pub forgotten : Runqueue → Runqueue
forgotten q = record q { this_bw = None; running_bw = None }

abbrev pub forget : State → ℕ → State
forget s cpu = keep_runqueue s (forgotten (runqueue_of s cpu))

abbrev pub forget_all : State → State
forget_all s = record s { runqueues = map forgotten s.runqueues }

abbrev pub without_extra : Runqueue → Runqueue
without_extra q = record q { extra_bw = None }

abbrev pub without_total : RootDomain → RootDomain
without_total d = record d { total_bw = None }

abbrev pub forget_unlocked : State → State
forget_unlocked s = record s { runqueues = map without_extra s.runqueues; domains = map without_total s.domains }

-- CPUs of a root domain (dl_bw_cpus): those that are active
abbrev pub is_processor : ℕ → Processor → Bool
is_processor cpu p = p.cpu == cpu

abbrev pub domain_by : Option Processor → Option ℕ
domain_by None = None
domain_by (Some p) = p.domain

abbrev pub domain_of : List Processor → ℕ → Option ℕ
domain_of ps cpu = domain_by (found_at ps (position (is_processor cpu) ps))

abbrev pub is_number : Option ℕ → ℕ → Bool
is_number None number = false
is_number (Some n) number = n == number

abbrev pub is_member : ℕ → Processor → Bool
is_member number p = p.is_active && is_number p.domain number

abbrev pub has_members : List Processor → Option ℕ → Bool
has_members ps None = false
has_members ps (Some number) = list_any (is_member number) ps

-- __dl_sub, __dl_add: each CPU of the root domain has its part, total_bw the whole, and each at a point of its own
abbrev pub extra_effect : ProbedLine → ℕ → Processor → PendingEffect
extra_effect place amount p = record { place = place; effect = Adds (ExtraBw p.cpu) amount }

abbrev pub pend_on_each : List PendingEffect → List Processor → ProbedLine → ℕ → ℕ → List PendingEffect
pend_on_each pending ps place number amount = pending ++ map (extra_effect place amount) (filter (is_member number) ps)

abbrev pub pend_total : List PendingEffect → ProbedLine → ℕ → ℕ → List PendingEffect
pend_total pending place number amount = pending ++ record { place = place; effect = Adds (TotalBw number) amount } ∷ []

abbrev pub members_of : List Processor → ℕ → ℕ
members_of ps number = length (filter (is_member number) ps)

abbrev pub pend_freed : List PendingEffect → List Processor → ProbedLine → ℕ → Option ℕ → List PendingEffect
pend_freed pending ps place number None = pending
pend_freed pending ps place number (Some bw) =
    pend_total (pend_on_each pending ps place number (share_of bw (members_of ps number))) place number (less 0 bw)

abbrev pub pend_taken : List PendingEffect → List Processor → ProbedLine → ℕ → Option ℕ → List PendingEffect
pend_taken pending ps place number None = pending
pend_taken pending ps place number (Some bw) =
    pend_total (pend_on_each pending ps place number (less 0 (share_of bw (members_of ps number)))) place number bw

-- what the CPUs of a root domain can do, or all where it is not known (dl_bw_capacity)
abbrev pub capacity_by : Option ℕ → ℕ
capacity_by None = 1024
capacity_by (Some capacity) = capacity

abbrev pub capacity_in : Processor → ℕ
capacity_in p = capacity_by p.capacity

abbrev pub is_counted : Option ℕ → Processor → Bool
is_counted None p = true
is_counted (Some number) p = is_member number p

abbrev pub capacities_from : ℕ → List Processor → ℕ
capacities_from sum [] = sum
capacities_from sum (p ∷ ps) = capacities_from (plus sum (capacity_in p)) ps

abbrev pub domain_capacity : List Processor → Option ℕ → ℕ
domain_capacity ps domain = capacities_from 0 (filter (is_counted domain) ps)

-- a root domain that no note tells is not followed
abbrev pub forgets_extra : List Processor → Runqueue → Runqueue
forgets_extra ps q = if has_members ps (domain_of ps q.cpu) then q else without_extra q

abbrev pub forget_others : State → State
forget_others s = record s { runqueues = map (forgets_extra s.processors) s.runqueues }

abbrev pub has_shares : SumsChange → Bool
has_shares c = is_some c.freed || is_some c.taken

abbrev pub share_by : State → ProbedLine → Option ℕ → SumsChange → State
share_by s place None c = forget_others s
share_by s place (Some number) c =
    if list_any (is_member number) s.processors
    then record s { pending = pend_taken (pend_freed s.pending s.processors place number c.freed) s.processors place number c.taken }
    else forget_others s

-- the two calls in their order, of a task of this CPU
abbrev pub share_in : State → ProbedLine → ℕ → SumsChange → State
share_in s place cpu c = if has_shares c then share_by s place (domain_of s.processors cpu) c else s

-- timers that a CPU must arm now
abbrev pub with_timer_to_arm : PlayRules → State → ProbedLine → ℕ → State
with_timer_to_arm t s place n =
    if t.has_timers
    then record s { timers_to_arm = s.timers_to_arm ++ record { place = place; entity = n; function = Replenish; zero_lag = None; at = s.now } ∷ [] }
    else s

abbrev pub start_timer_in : PlayRules → State → ProbedLine → ℕ → Bool → State
start_timer_in t s place n starts = if starts then with_timer_to_arm t s place n else s

-- task_non_contending: a timer is to be armed at once, or the bandwidth goes back
abbrev pub block_in : PlayRules → State → ProbedLine → ℕ → ℕ → SumsChange → Option Block → State
block_in t s place n cpu c None = s
block_in t s place n cpu c (Some Unreserved) = s
block_in t s place n cpu c (Some (WaitsForZeroLag z)) =
    if t.has_timers
    then record s { timers_to_arm = s.timers_to_arm ++ record { place = place; entity = n; function = ZeroLagTimer; zero_lag = Some z; at = s.now } ∷ [] }
    else s
block_in t s place n cpu c (Some Past) = share_in s place cpu c

-- a call changes sums by no rule of a task: they are unknown for 100 ms
abbrev pub opened : State → State
opened s = record (forget_unlocked s) { open_until = plus s.now 100000000; claims = [] }
