-- What a note does to a task: sched_dl_overflow, __setparam_dl, switched_to_dl, dl_change_utilization, switched_from_dl.
use Rattle.std.specs.Prelude.{ℕ, Bool, true, false, not, ◌&&◌, if◌then◌else◌, Some, None}
use Rattle.trace_data.specs.declared.note.Policy.{Policy}
use Rattle.trace_data.specs.declared.note.Policy.TheVariants.{Deadline, Other}
use Rattle.trace_data.specs.declared.quantities.Parameters.{Parameters}
use Rattle.kernel_rules.specs.Clock.{comes_before}
use Rattle.kernel_rules.specs.Budget.{renewed_of}
use Rattle.kernel_rules.specs.Reservation.{reserved_of}
use Rattle.kernel_rules.specs.declared.entity.Entity.{Entity}
use Rattle.timer_tasks.specs.declared.activity.Activity.{Activity}
use Rattle.timer_tasks.specs.declared.activity.Activity.TheVariants.{Contending, NonContending, Inactive, Away}
use Rattle.timer_tasks.specs.declared.activity.Knowledge.TheVariants.{Known, Unknown}
use Rattle.timer_tasks.specs.declared.note.NoteStep.{NoteStep}
use Rattle.timer_tasks.specs.declared.note.NoteStep.TheVariants.{WasThere, Admitted, Changed, Left, Nothing}
use Rattle.timer_tasks.specs.declared.task.DeadlineTask.{DeadlineTask}
use Rattle.timer_tasks.specs.Activity.{is_known_of}

abbrev pub step_by : DeadlineTask → Policy → Bool → NoteStep
step_by t (Deadline p) before = if before then WasThere p else (if t.entity.is_in_class then Changed p else Admitted p)
step_by t Other before = if t.entity.is_in_class then Left else Nothing

-- __setparam_dl, switched_to_dl
abbrev pub of_class_of : Entity → Parameters → Entity
of_class_of e p =
    let r = reserved_of e p in
    record r { budget = record r.budget { is_throttled = false; is_yielded = false }; is_in_class = true; is_dead = false }

abbrev pub was_there_of : DeadlineTask → ℕ → Parameters → DeadlineTask
was_there_of t cpu p = record t { entity = of_class_of t.entity p; cpu = cpu; activity = Inactive; is_admitted = true }

abbrev pub sighted_of : DeadlineTask → ℕ → Parameters → DeadlineTask
sighted_of t cpu p = record t { entity = of_class_of t.entity p; cpu = cpu; activity = Away; is_admitted = true }

-- a task that comes back to the class keeps budget and deadline where that is not over
abbrev pub keeps_of : DeadlineTask → ℕ → Bool
keeps_of t moment = is_known_of t.knowledge && not (comes_before t.entity.budget.deadline moment)

abbrev pub resumed_of : DeadlineTask → ℕ → Parameters → Entity
resumed_of t moment p = if keeps_of t moment then of_class_of t.entity p else renewed_of (of_class_of t.entity p) moment

-- by itself it runs on; by another it is asleep
abbrev pub admitted_of : DeadlineTask → ℕ → Bool → ℕ → Parameters → DeadlineTask
admitted_of t moment itself cpu p =
    if itself then record t { entity = resumed_of t moment p; cpu = cpu; activity = Contending; is_admitted = true; knowledge = Known; exceeded = None }
    else record t { entity = resumed_of t moment p; cpu = cpu; activity = Inactive; is_admitted = true; knowledge = Unknown; blocked = Some moment; is_lag_over = true }

-- dl_change_utilization, and enqueue_dl_entity with ENQUEUE_RESTORE of a ready task
abbrev pub changed_by : Activity → DeadlineTask → Entity → ℕ → DeadlineTask
changed_by Contending t e moment = record t { entity = if comes_before e.budget.deadline moment then renewed_of e moment else e }
changed_by NonContending t e moment = record t { entity = e; activity = Inactive }
changed_by _ t e moment = record t { entity = e }

abbrev pub changed_of : DeadlineTask → ℕ → Parameters → DeadlineTask
changed_of t moment p = changed_by t.activity t (reserved_of t.entity p) moment

-- switched_from_dl
abbrev pub left_of : DeadlineTask → DeadlineTask
left_of t = record t { entity = record t.entity { is_in_class = false }; activity = Away; is_admitted = false }
