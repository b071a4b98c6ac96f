-- What the lines of a trace tell of given tasks and beside them, one after another.
use Rattle.std.specs.Prelude.{ℕ, Bool, false, true, not, ◌&&◌, ◌||◌, ◌==◌, nat_le, nat_lt, max, List, Option, Some, None, is_none, unwrap_or, if◌then◌else◌}
use Rattle.std.specs.Option.{option_or}
use Rattle.trace_fields.specs.declared.shown.Shown.{Shown}
use Rattle.trace_fields.specs.declared.opening.TheConstants.{CPUS_MAX}
use Rattle.trace_data.specs.declared.line.RecordLine.{RecordLine}
use Rattle.trace_data.specs.declared.line.RecordLine.TheVariants as line
use Rattle.trace_data.specs.declared.line.Said.{Said}
use Rattle.trace_data.specs.declared.line.Said.TheVariants as said
use Rattle.trace_data.specs.declared.note.TraceNote.{TraceNote}
use Rattle.trace_data.specs.declared.note.TraceNote.TheVariants as note
use Rattle.trace_data.specs.declared.note.Policy.{Policy}
use Rattle.trace_data.specs.declared.note.Policy.TheVariants as policy
use Rattle.trace_lines.specs.declared.line.ToldLine.{ToldLine}
use Rattle.trace_lines.specs.Reading.{After}
use Rattle.convert_facts.specs.Given.{Outcome, Task, is_trouble, other_cpu, reserving, tasks_after, trouble_of}
use Rattle.convert_facts.specs.declared.report.EventReport.{EventReport}

-- the given tasks, and how many runqueues there are, where that was given or is told
pub record Gathered : Type 0 where
  pub cpus : Option ℕ
  pub processors : Option ℕ
  pub greatest_cpu : Option ℕ
  pub tasks : List Task

-- how many runqueues the option or the head tell of
abbrev pub runqueues_told : Gathered → Option ℕ
runqueues_told g = option_or g.cpus g.processors

-- whether a number of runqueues is none
abbrev pub is_bad_count : Option ℕ → Bool
is_bad_count None = false
is_bad_count (Some n) = n == 0 || nat_lt CPUS_MAX n

-- whether the head may still tell the number of processors: no event was read yet
abbrev pub is_head : Gathered → Bool
is_head g = is_none g.greatest_cpu && is_none g.processors

-- nothing is wrong with a line
abbrev pub right : Gathered → Outcome Gathered
right g = record { is_wrong = false; told = g }

abbrev pub counted_line : Gathered → Outcome Gathered
counted_line g = record { is_wrong = is_bad_count (runqueues_told g); told = g }

-- a line that tells no event, but maybe how many processors there are
abbrev pub head_line : Option ℕ → Gathered → Outcome Gathered
head_line processors g = if is_head g then counted_line (record g { processors = processors }) else right g

-- the greatest CPU that a line names
abbrev pub cpu_of : EventReport (List ℕ) → ℕ
cpu_of report = max report.cpu (other_cpu report.event)

-- a line of an event whose CPUs may be runqueues
abbrev pub event_within : EventReport (List ℕ) → Gathered → Outcome Gathered
event_within report g = record {
  is_wrong = is_trouble (trouble_of report g.tasks (unwrap_or (runqueues_told g) CPUS_MAX));
  told = record g { greatest_cpu = Some (max (unwrap_or g.greatest_cpu 0) (cpu_of report)); tasks = tasks_after report g.tasks };
}

-- a line of an event
abbrev pub event_line : EventReport (List ℕ) → Gathered → Outcome Gathered
event_line report g = if nat_le CPUS_MAX (cpu_of report) then record { is_wrong = true; told = g } else event_within report g

abbrev pub said_line : ℕ → ℕ → ℕ → Said → Option (Shown (List ℕ)) → Gathered → Outcome Gathered
said_line at cpu pid (said.Fixed event) shown g = event_line (record { at = at; cpu = cpu; pid = pid; event = event; shown = shown }) g
said_line at cpu pid (said.Probe probe) shown g = right g

abbrev pub reserved_line : Outcome (List Task) → Gathered → Outcome Gathered
reserved_line outcome g = record { is_wrong = outcome.is_wrong; told = record g { tasks = outcome.told } }

-- a note of a task, by its policy
abbrev pub policy_line : Policy → Option (Shown (List ℕ)) → Gathered → Outcome Gathered
policy_line (policy.Deadline parameters) (Some shown) g = reserved_line (reserving shown parameters g.tasks) g
policy_line policy shown g = right g

-- a note
abbrev pub note_line : TraceNote → Option (Shown (List ℕ)) → Gathered → Outcome Gathered
note_line (note.Task pid at by cpu policy) shown g = policy_line policy shown g
note_line note shown g = right g

-- what a line comes to that tells this
abbrev pub outcome : Option (Shown (List ℕ)) → Option ℕ → RecordLine → Gathered → Outcome Gathered
outcome shown processors line.Quiet g = head_line processors g
outcome shown processors (line.Note note) g = note_line note shown g
outcome shown processors (line.Event at grain cpu pid said) g = said_line at cpu pid said shown g
outcome shown processors (line.Flawed flaw) g = right g

-- no more lines are wanted behind one with a fault
abbrev pub ended : Outcome Gathered → After Gathered
ended o = record { more = not o.is_wrong; seen = o.told }

-- what a line comes to, whose number and words these are
abbrev pub gather_step : ℕ → ToldLine (List ℕ) → Gathered → After Gathered
gather_step n told g = ended (outcome told.shown told.processors told.line g)
