-- What a line shows against the rules' state, and what it makes known. What is unknown is compared with nothing.
use Rattle.std.specs.Prelude.{ℕ, ℤ, Bool, true, false, not, ◌&&◌, ◌||◌, ◌==◌, if◌then◌else◌, Option, Some, None}
use Rattle.std.specs.Int.{w64, cast_unsigned}
use Rattle.trace_data.specs.declared.quantities.Sums.{Sums}
use Rattle.trace_data.specs.declared.quantities.Budget.{Budget}
use Rattle.trace_data.specs.declared.quantities.Parameters.{Parameters}
use Rattle.trace_data.specs.declared.probe.Enqueued.{Enqueued}
use Rattle.trace_data.specs.declared.probe.Dequeued.{Dequeued}
use Rattle.trace_data.specs.declared.probe.LeftClass.{LeftClass}
use Rattle.kernel_rules.specs.Clock.{plus, signed, comes_before, contains_bits}
use Rattle.probe_run.specs.Special.{reservation_of}
use Rattle.probe_run.specs.declared.actor.Actor.{Actor}
use Rattle.probe_run.specs.State.{State}
use Rattle.probe_run.specs.Sums.{runqueue_of}
use Rattle.probe_run.specs.Moves.{agrees_with}
use Rattle.probe_run.specs.Begin.{sums_open}

abbrev pub same_flag : Bool → Bool → Bool
same_flag true shown = shown
same_flag false shown = not shown

abbrev pub same_signed : ℤ → ℤ → Bool
same_signed a b = cast_unsigned w64 a == cast_unsigned w64 b

-- this_bw and running_bw, which are read under the runqueue's lock, at the line; what is open is not compared
abbrev pub sums_agree : State → ℕ → Sums → Bool
sums_agree s cpu shown =
    let q = runqueue_of s cpu in
    sums_open s cpu || (agrees_with q.this_bw shown.this_bw && agrees_with q.running_bw shown.running_bw)

abbrev pub budget_agrees : Actor → ℤ → ℕ → Bool
budget_agrees a runtime deadline = not a.knows_budget || (same_signed a.entity.budget.runtime runtime && (a.entity.budget.deadline == deadline))

abbrev pub flags_agree : Actor → Budget → Bool
flags_agree a shown =
    not (a.knows_budget || a.knows_parameters)
    || (same_flag a.entity.budget.is_throttled shown.is_throttled && same_flag a.entity.budget.is_yielded shown.is_yielded)

abbrev pub contending_agrees : Actor → Bool → Bool
contending_agrees a shown = not a.knows_contending || same_flag a.entity.is_non_contending shown

abbrev pub lengths_agree : Actor → Parameters → Bool
lengths_agree a shown = (a.entity.parameters.dl_runtime == shown.dl_runtime) && (a.entity.parameters.dl_deadline == shown.dl_deadline)

abbrev pub parameters_agree : Actor → Parameters → Bool
parameters_agree a shown =
    not a.knows_parameters
    || (lengths_agree a shown && ((a.entity.parameters.dl_period == shown.dl_period) && (a.entity.parameters.flags == shown.flags)))

abbrev pub enqueued_agrees : Actor → Enqueued → Bool
enqueued_agrees a l =
    budget_agrees a l.budget.runtime l.budget.deadline && flags_agree a l.budget
    && (contending_agrees a l.is_non_contending && parameters_agree a l.parameters)

abbrev pub enqueued_shown : Actor → Enqueued → Actor
enqueued_shown a l = record a {
  entity = record (reservation_of a.entity l.parameters) { budget = l.budget; is_non_contending = l.is_non_contending };
  knows_budget = true;
  knows_parameters = true;
  knows_contending = true;
  cpu = l.cpu;
  address = Some l.entity;
}

-- new parameters of a call that was made while it was queued: one that stands in a dequeue does not take them
abbrev pub keeps_new : Bool → Actor → Actor → Actor
keeps_new within a shown = if within then record shown { entity = record shown.entity { new_parameters = a.entity.new_parameters } } else shown

abbrev pub dequeued_agrees : Actor → Dequeued → Bool
dequeued_agrees a l = budget_agrees a l.budget.runtime l.budget.deadline && flags_agree a l.budget && contending_agrees a l.is_non_contending

abbrev pub dequeued_shown : Actor → Dequeued → Actor
dequeued_shown a l = record a {
  entity = record a.entity {
    budget = l.budget;
    is_non_contending = l.is_non_contending;
    is_in_class = true;
    is_dead = contains_bits l.state 128;
    is_in_tree = if a.knows_budget then a.entity.is_in_tree else (l.current == l.pid) && not l.budget.is_throttled;
  };
  knows_budget = true;
  knows_contending = true;
  cpu = l.cpu;
}

abbrev pub left_agrees : Actor → LeftClass → Bool
left_agrees a l = budget_agrees a l.runtime l.deadline && contending_agrees a l.is_non_contending

abbrev pub left_shown : Actor → LeftClass → Actor
left_shown a l = record a {
  entity = record a.entity { budget = record a.entity.budget { runtime = l.runtime; deadline = l.deadline }; is_non_contending = l.is_non_contending };
  knows_budget = true;
  knows_contending = true;
  cpu = l.cpu;
}

abbrev pub contending_shown : Actor → Bool → Actor
contending_shown a shown = record a { entity = record a.entity { is_non_contending = shown }; knows_contending = true }

-- sched_yield is an input: it is seen where a charge shows it, or an enqueue of a task that is throttled
abbrev pub yielded_by : Actor → Bool → Actor
yielded_by a yields = if yields then record a { entity = record a.entity { budget = record a.entity.budget { is_yielded = true } } } else a

-- an entity has one address, and one for each of its timers
abbrev pub address_agrees : Option ℕ → ℕ → Bool
address_agrees None shown = true
address_agrees (Some known) shown = known == shown
