-- The class of a task, by the priority that a trace tells (include/linux/sched/prio.h): -1 is SCHED_DEADLINE, one below 100 is of real
-- time, and one from 100 on is fair.
use Rattle.std.specs.Prelude.{ℕ, Bool, true, false, ◌==◌, nat_le, nat_lt, List, codes, Option, Some, None, if◌then◌else◌, option_map, option_and_then, unwrap_or}
use Rattle.std.specs.Option.{option_map_or}
use Rattle.std.specs.Borrow.{Bor}
use Rattle.trace_fields.specs.Numbers.{after, number}
use Rattle.trace_fields.specs.Words.{value_of}
use Rattle.trace_fields.specs.Shown.{shown_text, task_of}
use Rattle.trace_fields.specs.declared.opening.CpuWord.{CpuWord}
use Rattle.trace_fields.specs.declared.opening.Opening.{Opening}
use Rattle.trace_fields.specs.declared.shown.Shown.{Shown}
use Rattle.trace_data.specs.declared.line.Flaw.TheVariants.{TooLong, BadTraceLine}
use Rattle.trace_lines.specs.declared.scheduled.Class.{Class}
use Rattle.trace_lines.specs.declared.scheduled.Class.TheVariants.{Deadline, RealTime, Fair}
use Rattle.trace_lines.specs.declared.scheduled.Scheduled.{Scheduled}
use Rattle.trace_lines.specs.declared.scheduled.Scheduled.TheVariants.{Waking, BadWaking, Woken, Switched}
use Rattle.trace_lines.specs.declared.word.TheConstants.{CPUS}

abbrev pub is_deadline : Class → Bool
is_deadline Deadline = true
is_deadline RealTime = false
is_deadline Fair = false

abbrev pub class_plain : ℕ → Class
class_plain priority = if nat_lt priority 100 then RealTime else Fair

abbrev pub class_below : ℕ → Class
class_below below = if below == 1 then Deadline else RealTime

abbrev pub class_by : Option (List ℕ) → List ℕ → Option Class
class_by None word = option_map class_plain (number word)
class_by (Some digits) word = option_map class_below (number digits)

abbrev pub class_of : List ℕ → Option Class
class_of word = class_by (after (codes "-") word) word

abbrev pub class_field : List ℕ → List ℕ → Option Class
class_field key fields = option_and_then class_of (value_of key fields)

-- the texts that the slices of the code point to
abbrev pub scheduled_text : Scheduled (Bor (List ℕ)) → Scheduled (List ℕ)
scheduled_text (Waking at cpu task class) = Waking at cpu (shown_text task) class
scheduled_text (BadWaking flaw) = BadWaking flaw
scheduled_text (Woken class is_new) = Woken class is_new
scheduled_text (Switched class next next_class) = Switched class (shown_text next) next_class

abbrev pub waking_with : ℕ → ℕ → Shown (List ℕ) → List ℕ → Option (Scheduled (List ℕ))
waking_with at cpu task fields = option_map (λ c. Waking at cpu task c) (class_field (codes "prio=") fields)

abbrev pub waking_by : ℕ → ℕ → List ℕ → Option (Scheduled (List ℕ))
waking_by at cpu fields = option_and_then (λ s. waking_with at cpu s.0 s.1) (task_of fields)

abbrev pub waking_on : ℕ → List ℕ → CpuWord → Scheduled (List ℕ)
waking_on at fields c = if nat_le CPUS c.cpu then BadWaking TooLong else unwrap_or (waking_by at c.cpu fields) (BadWaking BadTraceLine)

-- what a line of sched_waking shows; its CPU and its fields are wrong for who reads it alone
abbrev pub waking : Opening → List ℕ → Scheduled (List ℕ)
waking opening fields = option_map_or (waking_on opening.at fields) opening.cpu (BadWaking BadTraceLine)
