-- What the lines of a text tell of timers: what is kept of them, and what notes say of the kernel that wrote them.
use Rattle.std.specs.Prelude.{ℕ, max, Bool, true, false, not, ◌&&◌, ◌||◌, ◌==◌, if◌then◌else◌, List, length, Option, Some, None, is_some, option_and_then, option_map, unwrap_or}
use Rattle.trace_data.specs.declared.fixed.Fixed.{Fixed}
use Rattle.trace_data.specs.declared.fixed.Fixed.TheVariants as fixed
use Rattle.trace_data.specs.declared.line.RecordLine.{RecordLine}
use Rattle.trace_data.specs.declared.note.Policy.{Policy}
use Rattle.trace_data.specs.declared.note.Policy.TheVariants as policies
use Rattle.trace_data.specs.declared.note.TraceNote.{TraceNote}
use Rattle.trace_data.specs.declared.note.TraceNote.TheVariants as note
use Rattle.trace_fields.specs.declared.shown.Shown.{Shown as ShownTask}
use Rattle.trace_lines.specs.declared.line.ToldLine.{ToldLine}
use Rattle.trace_options.specs.Words.{domain_in}
use Rattle.trace_options.specs.declared.options.CheckOptions.{CheckOptions}
use Rattle.law_findings.specs.declared.judged.ReadLine.{ReadLine}
use Rattle.timer_record.specs.Records.{EventLine}
use Rattle.check_settings.specs.Heads.{Told, chosen, lacks_cpu, listed_in, noted_with, nothing_told, seen_on}
use Rattle.check_settings.specs.Opening.{change_opens, changes_frequency, newcomer_by, opened_with, opening_by}
use Rattle.check_settings.specs.declared.head.OpeningSign.{OpeningSign}
use Rattle.check_settings.specs.declared.head.OpeningSign.TheVariants as signs
use Rattle.check_settings.specs.declared.head.SumsOpened.{SumsOpened}
use Rattle.check_settings.specs.Timers.{Timers, begun, forgotten, late_in, timers_at_first, with_event, with_note, with_shown}
use Rattle.check_settings.specs.Wanted.{wanted_by}
use Rattle.check_settings.specs.declared.timers.LateLine.{LateLine}
use Rattle.check_settings.specs.declared.wanted.WantedLines.{WantedLines}
use Rattle.check_record.specs.Lost.{is_behind_by}

pub record Timed : Type 0 where
  pub options : CheckOptions
  -- lines of timers are kept beside lines of probes, and there are some of these
  pub beside : Bool
  pub probed : Bool
  pub told : Told
  pub opening : Option SumsOpened
  pub governor : Bool
  pub lines : Timers

-- the verdict is by lines of probes: lines of timers are not kept any more
abbrev pub is_past : Timed → Bool
is_past t = t.probed && not t.options.by_timers && not t.beside

abbrev pub wanted_in : Timed → WantedLines
wanted_in t = wanted_by (chosen t.options.kernel t.told.kernel) (not (length t.told.sums == 0))

-- lines are kept from here on
abbrev pub kept_in : Timed → Timed
kept_in t = record t { lines = begun (wanted_in t) t.lines }

-- the head of a trace
abbrev pub headed : Option ℕ → Timed → Timed
headed processors t = record t { told = record t.told { processors = chosen t.told.processors processors } }

-- a note of the CPUs of the root domain
abbrev pub domain_by : Option (List ℕ) → List ℕ → List ℕ
domain_by (Some text) before = unwrap_or (option_map listed_in (domain_in text)) before
domain_by None before = before

abbrev pub domained : Option (List ℕ) → Timed → Timed
domained text t = record t { told = record t.told { domain = domain_by text t.told.domain } }

-- something sets the frequency of a CPU
abbrev pub tells_governor : ToldLine (List ℕ) → Bool
tells_governor told = is_some told.governor || changes_frequency told.change

abbrev pub governed : Bool → Timed → Timed
governed is_told t = record t { governor = t.governor || is_told }

-- extra_bw may not be known any more
abbrev pub opened : ℕ → Option OpeningSign → Timed → Timed
opened n sign t = record t { opening = opened_with sign n t.opening }

-- a line shows a task
abbrev pub task_shown : ℕ → List ℕ → Timed → Timed
task_shown pid comm t = record t { lines = with_shown (wanted_in t) pid comm t.lines }

abbrev pub shown_told : ℕ → RecordLine → Option (ShownTask (List ℕ)) → Timed → Timed
shown_told n line (Some shown) t = opened n (opening_by line shown.comm) (task_shown shown.pid shown.comm t)
shown_told n line None t = t

-- a task that has ended reserves nothing any more (__dl_clear_params)
abbrev pub noted_policy : Policy → Policy
noted_policy (policies.Deadline p) = if p.dl_runtime == 0 then policies.Other else policies.Deadline p
noted_policy policies.Other = policies.Other

-- a note: one of a task is not taken behind a line of a later moment
abbrev pub task_noted : ℕ → Option ℕ → Option ℕ → ℕ → Policy → Timed → Timed
task_noted pid at by cpu policy t = record t { lines = with_note pid at by cpu policy (begun (wanted_in t) t.lines) }

abbrev pub note_kept : TraceNote → Timed → Timed
note_kept (note.Task pid at by cpu policy) t = if is_behind_by at t.lines.latest then t else task_noted pid at by cpu (noted_policy policy) t
note_kept other t = t

abbrev pub noted : TraceNote → Timed → Timed
noted told t = note_kept told (record t { told = noted_with told t.told })

-- the CPU that an event names beside its line's, or 0
abbrev pub other_cpu : Fixed → ℕ
other_cpu (fixed.Woken pid deadline cpu) = cpu
other_cpu (fixed.Migrated pid deadline cpu) = cpu
other_cpu other = 0

-- a line of the scheduler or of a timer
abbrev pub event_of : ReadLine → Fixed → EventLine
event_of read fixed = record { line = read.line; at = read.at; cpu = read.cpu; pid = read.pid; fixed = fixed }

abbrev pub newcomer_seen : ℕ → ℕ → Timed → Timed
newcomer_seen n cpu t = opened n (newcomer_by (lacks_cpu t.told t.options cpu) cpu) t

abbrev pub line_kept : EventLine → Timed → Timed
line_kept e t = record t { lines = with_event e t.lines }

-- it may show that a note came too late
abbrev pub late_opened : Option LateLine → Timed → Timed
late_opened (Some late) t = opened late.line (Some (signs.LateNote late.pid)) t
late_opened None t = t

abbrev pub late_note_seen : ℕ → ℕ → Fixed → Timed → Timed
late_note_seen n at fixed t = late_opened (option_and_then (late_in n at fixed) t.lines.kept) t

abbrev pub event_kept : EventLine → Timed → Timed
event_kept e t = line_kept e (late_note_seen e.line e.at e.fixed (kept_in (newcomer_seen e.line e.cpu t)))

abbrev pub cpus_seen : ℕ → ℕ → Timed → Timed
cpus_seen cpu other t = record t { told = seen_on other (seen_on cpu t.told) }

unfoldable pub kept_unless_past : EventLine → Timed → Timed
kept_unless_past e t = if is_past t then t else event_kept e t

abbrev pub with_event_line : EventLine → Timed → Timed
with_event_line e t = kept_unless_past e (cpus_seen e.cpu (other_cpu e.fixed) t)

-- a line of a probe: behind the first one lines of timers are not kept
abbrev pub probe_seen : ℕ → Timed → Timed
probe_seen cpu t = record t { told = seen_on cpu t.told; lines = if is_past t then forgotten t.lines else t.lines }

abbrev pub probe_came : Timed → Timed
probe_came t = record t { probed = true }

-- what a line tells beside what it says
abbrev pub with_told : ℕ → ToldLine (List ℕ) → Timed → Timed
with_told n told t =
    shown_told n told.line told.shown (opened n (change_opens told.change)
    (governed (tells_governor told) (domained told.domain (headed told.processors t))))

abbrev pub timed_at_first : CheckOptions → Bool → Timed
timed_at_first o beside = record { options = o; beside = beside; probed = false; told = nothing_told; opening = None; governor = false; lines = timers_at_first o.tasks.items }
