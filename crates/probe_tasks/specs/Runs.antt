-- The line of update_curr_dl_se.
use Rattle.std.specs.Prelude.{ℕ, ◌/◌, ◌^◌, ℤ, pos, int_lt, nat_lt, Bool, true, false, not, ◌&&◌, ◌||◌, ◌==◌, if◌then◌else◌, Option, Some, None, unwrap_or, is_none}
use Rattle.std.specs.Int.{w64, cast_unsigned}
use Rattle.trace_data.specs.declared.probe.Updated.{Updated}
use Rattle.trace_data.specs.declared.probe.Ran.{Ran}
use Rattle.trace_data.specs.declared.probe.Ran.TheVariants.{Span, Clocks}
use Rattle.kernel_rules.specs.declared.charge.ChargedRunqueue.{ChargedRunqueue}
use Rattle.kernel_rules.specs.declared.charge.ChargeLaw.{ChargeLaw}
use Rattle.kernel_rules.specs.declared.charge.ChargeLaw.TheVariants.{LinuxBefore65, LinuxFrom65, Documentation}
use Rattle.kernel_rules.specs.declared.entity.Entity.{Entity}
use Rattle.kernel_rules.specs.declared.flags.TheConstants.{RECLAIM}
use Rattle.kernel_rules.specs.Clock.{less, times, signed, contains_bits}
use Rattle.kernel_rules.specs.Charge.{cost_of}
use Rattle.kernel_rules.specs.Budget.{charged_of}
use Rattle.kernel_rules.specs.Spend.{spending_of}
use Rattle.probe_findings.specs.declared.words.ProbedLine.{ProbedLine}
use Rattle.probe_run.specs.declared.actor.Actor.{Actor}
use Rattle.probe_run.specs.declared.rules.PlayRules.{PlayRules}
use Rattle.probe_run.specs.declared.rules.Processor.{Processor}
use Rattle.probe_run.specs.declared.waiting.UnlockedSum.TheVariants.{ExtraBw}
use Rattle.probe_run.specs.State.{State, actor_at, keep_at}
use Rattle.probe_run.specs.Special.{is_special}
use Rattle.probe_run.specs.Sums.{start_timer_in}
use Rattle.probe_run.specs.Counting.{where_it_holds}
use Rattle.probe_run.specs.Begin.{claim_in, sums_read, await_enqueue, processor_of}
use Rattle.probe_tasks.specs.declared.choice.LineChoice.{LineChoice}
use Rattle.probe_values.specs.Shown.{sums_agree, budget_agrees, flags_agree, yielded_by}

abbrev pub delta_by : Ran → ℤ
delta_by (Span delta max_bw) = delta
delta_by (Clocks now start entity max_bw) = signed (less now start)

abbrev pub max_bw_by : Ran → ℕ
max_bw_by (Span delta max_bw) = max_bw
max_bw_by (Clocks now start entity max_bw) = unwrap_or max_bw 0

abbrev pub shows_max_bw : Ran → Bool
shows_max_bw (Span delta max_bw) = true
shows_max_bw (Clocks now start entity max_bw) = not (is_none max_bw)

-- grub_reclaim's equation: that with max_bw, where the runqueue has it, else that before 6.5; the documentation's, where that is asked for
abbrev pub law_shown : ChargeLaw → Ran → ChargeLaw
law_shown Documentation r = Documentation
law_shown LinuxBefore65 r = if shows_max_bw r then LinuxFrom65 else LinuxBefore65
law_shown LinuxFrom65 r = if shows_max_bw r then LinuxFrom65 else LinuxBefore65

abbrev pub has_run : Updated → Bool
has_run u = int_lt (pos 0) (delta_by u.ran)

-- by an extra_bw that was read at the line, or later
abbrev pub charged_runqueue_of : Updated → Option ℕ → ChargedRunqueue
charged_runqueue_of u later = record {
  sums = record u.sums { extra_bw = unwrap_or later u.sums.extra_bw };
  max_bw = max_bw_by u.ran;
  bw_ratio = u.bw_ratio;
}

-- dl_scaled_delta_exec: by the CPU's frequency and capacity, in units of 2 ^ -10, where it does not reclaim
abbrev pub scaled_span : ℕ → ℕ → ℕ → ℕ
scaled_span nanos frequency capacity = times (times nanos frequency / 2 ^ 10) capacity / 2 ^ 10

-- what a line does not show of them is full speed, and the capacity that a note tells
abbrev pub capacity_of : State → Updated → ℕ
capacity_of s u = unwrap_or u.speed.capacity (unwrap_or (processor_of s u.cpu).capacity 1024)

abbrev pub capacity_agrees : Option ℕ → Option ℕ → Bool
capacity_agrees (Some shown) (Some noted) = noted == shown
capacity_agrees (Some shown) None = true
capacity_agrees None noted = true

-- a charge of nothing reads no capacity
abbrev pub capacity_may : State → Updated → Bool
capacity_may s u = not (has_run u) || capacity_agrees u.speed.capacity (processor_of s u.cpu).capacity

abbrev pub full_cost : PlayRules → State → Entity → Updated → Option ℕ → ℕ
full_cost t s e u later =
    let nanos = cast_unsigned w64 (delta_by u.ran) in
    if contains_bits e.parameters.flags RECLAIM then cost_of (law_shown t.law u.ran) e (charged_runqueue_of u later) nanos
    else scaled_span nanos (unwrap_or u.speed.frequency 1024) (capacity_of s u)

-- where no line shows the frequency, a charge without the flag may have cost less
abbrev pub cost_may_be : PlayRules → State → Entity → Updated → LineChoice → Bool
cost_may_be t s e u c =
    is_none c.cost
    || (has_run u && is_none u.speed.frequency && not (contains_bits e.parameters.flags RECLAIM) && nat_lt (unwrap_or c.cost 0) (full_cost t s e u c.extra_bw))

abbrev pub charged_by : PlayRules → State → Entity → Updated → LineChoice → Entity
charged_by t s e u c = if has_run u then charged_of e (unwrap_or c.cost (full_cost t s e u c.extra_bw)) else e

-- a later extra_bw is one more claim, behind the line's; where extra_bw is open it is any
abbrev pub claim_later : State → ProbedLine → ℕ → Option ℕ → State
claim_later s place cpu None = s
claim_later s place cpu (Some value) = claim_in s place (ExtraBw cpu) value

-- it is known, and stands in the tree
abbrev pub is_charged : Actor → Bool
is_charged a = a.entity.is_in_tree && (a.knows_budget && a.knows_parameters)

abbrev pub charges_by : State → Option ℕ → Bool
charges_by s None = false
charges_by s (Some n) = is_charged (actor_at s n)

abbrev pub shown_charge : Actor → Updated → Actor
shown_charge a u = let b = yielded_by a u.budget.is_yielded in record b { entity = record b.entity { budget = u.budget } }

abbrev pub spent_may : PlayRules → State → Actor → Updated → LineChoice → Bool
spent_may t s a u c =
    let b = yielded_by a u.budget.is_yielded in
    sums_agree s u.cpu u.sums && (budget_agrees b u.budget.runtime u.budget.deadline && flags_agree b u.budget)
    && (capacity_may s u && cost_may_be t s (shown_charge a u).entity u c)

abbrev pub spent_next : PlayRules → State → ProbedLine → ℕ → Actor → Updated → LineChoice → State
spent_next t s place n a u c =
    let shown = shown_charge a u in
    let done = spending_of (charged_by t s shown.entity u c) u.clock (has_run u) in
    let read = claim_later (sums_read s place u.cpu u.sums) place u.cpu c.extra_bw in
    await_enqueue (start_timer_in t (keep_at read n (record shown { entity = done.entity })) place n done.starts_timer) place.cpu done.is_enqueued_again

-- a thread of schedutil is not charged
abbrev pub special_may : State → Actor → Updated → LineChoice → Bool
special_may s a u c =
    let b = yielded_by a u.budget.is_yielded in
    sums_agree s u.cpu u.sums && (budget_agrees b u.budget.runtime u.budget.deadline && flags_agree b u.budget) && (is_none c.extra_bw && is_none c.cost)

abbrev pub spent_with : PlayRules → State → ProbedLine → ℕ → Actor → Updated → LineChoice → Option State
spent_with t s place n a u c =
    if is_special a.entity && has_run u
    then where_it_holds (special_may s a u c) (keep_at (sums_read s place u.cpu u.sums) n (shown_charge a u))
    else where_it_holds (spent_may t s a u c) (spent_next t s place n a u c)

abbrev pub uncharged_by : State → ProbedLine → Updated → LineChoice → Option State
uncharged_by s place u c =
    where_it_holds (sums_agree s u.cpu u.sums && (is_none c.extra_bw && is_none c.cost)) (sums_read s place u.cpu u.sums)

abbrev pub updated_with : PlayRules → State → ProbedLine → ℕ → Actor → Updated → LineChoice → Option State
updated_with t s place n a u c = if is_charged a then spent_with t s place n a u c else uncharged_by s place u c

abbrev pub updated_by : PlayRules → State → ProbedLine → Updated → LineChoice → Option ℕ → Option State
updated_by t s place u c None = uncharged_by s place u c
updated_by t s place u c (Some n) = updated_with t s place n (actor_at s n) u c
