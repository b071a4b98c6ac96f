-- What the events say that each kernel has, by the fields of their lines.
use Rattle.std.specs.Prelude.{ℕ, nat_eq, Bool, ◌||◌, ◌==◌, List, [], ◌∷◌, codes, Option, Some, None, if◌then◌else◌, option_map, option_and_then}
use Rattle.std.specs.Char.{is_ascii_digit}
use Rattle.std.specs.List.{starts_with}
use Rattle.trace_fields.specs.Numbers.{after}
use Rattle.trace_fields.specs.Words.{cpu_field, deadline_field, number_field, value_of}
use Rattle.trace_fields.specs.Shown.{shown_by, task_of}
use Rattle.trace_fields.specs.declared.shown.Shown.{Shown}
use Rattle.trace_probes.specs.Numerals.{numeral}
use Rattle.trace_probes.specs.Fields.{timer_function}
use Rattle.trace_data.specs.declared.fixed.Stop.{Stop}
use Rattle.trace_data.specs.declared.fixed.Stop.TheVariants.{Ready, Blocks, Ends}
use Rattle.trace_data.specs.declared.fixed.TimerFunction.{TimerFunction}
use Rattle.trace_data.specs.declared.fixed.TimerFunction.TheVariants.{ZeroLag, Replenish, Other}
use Rattle.trace_data.specs.declared.fixed.Fixed.{Fixed}
use Rattle.trace_data.specs.declared.fixed.Fixed.TheVariants.{Woken, Migrated, Ran, Switched, TimerStarted, TimerCancelled, TimerFired}
use Rattle.trace_data.specs.declared.line.Said.TheVariants as said
use Rattle.trace_lines.specs.Scheduled.{class_field, is_deadline}
use Rattle.trace_lines.specs.declared.fixed.Named.{Named}
use Rattle.trace_lines.specs.declared.scheduled.Class.{Class}
use Rattle.trace_lines.specs.declared.scheduled.Scheduled.{Scheduled}
use Rattle.trace_lines.specs.declared.scheduled.Scheduled.TheVariants as scheduled

abbrev pub address_by : Option (List ℕ) → List ℕ → Option ℕ
address_by None word = numeral 16 word
address_by (Some digits) word = numeral 16 digits

-- the number of a word of hexadecimal digits, maybe behind 0x
abbrev pub address : List ℕ → Option ℕ
address word = address_by (after (codes "0x") word) word

abbrev pub address_field : List ℕ → Option ℕ
address_field fields = option_and_then address (value_of (codes "hrtimer=") fields)

-- how a task stops to run, by the first letter of its state; some tools print numbers, which say nothing here
abbrev pub stop_of : List ℕ → Option Stop
stop_of [] = None
stop_of (c ∷ cs) =
    if c == 82 || c == 80 then Some Ready else (if c == 88 || c == 90 then Some Ends else (if is_ascii_digit c then None else Some Blocks))

-- what a line says of a task that it shows, and what it shows of tasks, whatever their class
abbrev pub naming : Shown (List ℕ) → Fixed → Option (Scheduled (List ℕ)) → Named (List ℕ)
naming task fixed scheduled = record { said = said.Fixed fixed; shown = Some task; scheduled = scheduled }

-- what a line says that shows none
abbrev pub alone : Fixed → Named (List ℕ)
alone fixed = record { said = said.Fixed fixed; shown = None; scheduled = None }

abbrev pub woken_with : Shown (List ℕ) → Bool → List ℕ → Option (Named (List ℕ))
woken_with task is_new fields =
    option_and_then (λ c. option_map (λ cpu. naming task (Woken task.pid (is_deadline c) cpu) (Some (scheduled.Woken c is_new))) (cpu_field (codes "target_cpu=") fields)) (class_field (codes "prio=") fields)

-- sched_wakeup, and sched_wakeup_new, by which the task's thread begins
abbrev pub woken : Bool → List ℕ → Option (Named (List ℕ))
woken is_new fields = option_and_then (λ s. woken_with s.0 is_new s.1) (task_of fields)

abbrev pub migrated_with : Shown (List ℕ) → List ℕ → Option (Named (List ℕ))
migrated_with task fields =
    option_and_then (λ d. option_map (λ c. naming task (Migrated task.pid d c) None) (cpu_field (codes "dest_cpu=") fields)) (deadline_field (codes "prio=") fields)

-- sched_migrate_task
abbrev pub migrated : List ℕ → Option (Named (List ℕ))
migrated fields = option_and_then (λ s. migrated_with s.0 s.1) (task_of fields)

-- sched_stat_runtime
abbrev pub ran : List ℕ → Option (Named (List ℕ))
ran fields =
    option_and_then (λ s. option_map (λ n. naming s.0 (Ran s.0.pid n) None) (number_field (codes "runtime=") s.1)) (task_of fields)

abbrev pub switched_next : Shown (List ℕ) → Class → Stop → Shown (List ℕ) → List ℕ → Option (Named (List ℕ))
switched_next task class stop next fields =
    option_map (λ c. naming task (Switched task.pid (is_deadline class) stop next.pid (is_deadline c)) (Some (scheduled.Switched class next c))) (class_field (codes "next_prio=") fields)

abbrev pub switched_to : Shown (List ℕ) → Class → Stop → List ℕ → Option (Named (List ℕ))
switched_to task class stop fields =
    option_and_then (λ s. switched_next task class stop s.0 s.1) (shown_by (codes "next_comm=") (codes "next_pid=") fields)

abbrev pub stop_in : List ℕ → Option Stop
stop_in fields = option_and_then stop_of (value_of (codes "prev_state=") fields)

abbrev pub switched_from : Shown (List ℕ) → List ℕ → Option (Named (List ℕ))
switched_from task fields =
    option_and_then (λ c. option_and_then (λ s. switched_to task c s fields) (stop_in fields)) (class_field (codes "prev_prio=") fields)

-- sched_switch
abbrev pub switched : List ℕ → Option (Named (List ℕ))
switched fields = option_and_then (λ s. switched_from s.0 s.1) (shown_by (codes "prev_comm=") (codes "prev_pid=") fields)

abbrev pub started_deadline : TimerFunction → List ℕ → Option (Named (List ℕ))
started_deadline function fields =
    option_and_then (λ t. option_map (λ e. alone (TimerStarted t function e)) (number_field (codes "expires=") fields)) (address_field fields)

-- a timer with another function needs its function alone
abbrev pub started_by : TimerFunction → List ℕ → Option (Named (List ℕ))
started_by ZeroLag fields = started_deadline ZeroLag fields
started_by Replenish fields = started_deadline Replenish fields
started_by Other fields = Some (alone (TimerStarted 0 Other 0))

-- hrtimer_start
abbrev pub started : List ℕ → Option (Named (List ℕ))
started fields = option_and_then (λ f. started_by (timer_function f) fields) (value_of (codes "function=") fields)

-- hrtimer_cancel
abbrev pub cancelled : List ℕ → Option (Named (List ℕ))
cancelled fields = option_map (λ t. alone (TimerCancelled t)) (address_field fields)

-- the function of a CPU's tick (kernel/time/tick-sched.c, tick-common.c)
abbrev pub is_tick : List ℕ → Bool
is_tick function = starts_with nat_eq function (codes "tick_")

-- hrtimer_expire_entry
abbrev pub fired : List ℕ → Option (Named (List ℕ))
fired fields =
    option_and_then (λ t. option_and_then (λ f. option_map (λ n. alone (TimerFired t (timer_function f) (is_tick f) n)) (number_field (codes "now=") fields)) (value_of (codes "function=") fields)) (address_field fields)
