-- What the lines of a text show: the lines of probes among them, whether these show dequeues and timers, and the kernel that is named.
use Rattle.std.specs.Prelude.{ℕ, Bool, true, false, ◌||◌, List, [], ◌∷◌, ◌++◌, Option, None}
use Rattle.trace_options.specs.declared.options.CheckOptions.{CheckOptions}
use Rattle.trace_data.specs.declared.line.RecordLine.{RecordLine}
use Rattle.trace_data.specs.declared.line.RecordLine.TheVariants.{Event, Note}
use Rattle.trace_data.specs.declared.line.Said.{Said}
use Rattle.trace_data.specs.declared.line.Said.TheVariants as said
use Rattle.trace_data.specs.declared.note.Kernel.{Kernel}
use Rattle.trace_data.specs.declared.note.TraceNote.{TraceNote}
use Rattle.trace_data.specs.declared.note.TraceNote.TheVariants as note
use Rattle.trace_data.specs.declared.probe.Probe.{Probe}
use Rattle.trace_lines.specs.declared.line.ToldLine.{ToldLine}
use Rattle.trace_lines.specs.Reading.{After, reading}
use Rattle.probe_explain.specs.declared.search.ProbeLine.{ProbeLine}
use Rattle.probe_start.specs.Looks.{arms_timer, shows_dequeue}
use Rattle.check_record.specs.Timed.{Timed, noted, probe_came, probe_seen, timed_at_first, with_event_line, with_told}

-- a line of a probe: its number in the text, its moment, its CPU, the task that ran there, and what the probe shows
pub record ShownProbe : Type 0 where
  pub line : ℕ
  pub at : ℕ
  pub cpu : ℕ
  pub pid : ℕ
  pub probe : Probe

-- what was shown so far
pub record Shown : Type 0 where
  pub probes : List ShownProbe
  pub kernel : Option Kernel
  -- one of them shows a dequeue, or a timer that is armed
  pub dequeues : Bool
  pub timers : Bool
  pub timed : Timed

-- the kernel that the last such note names
abbrev pub kernel_noted : TraceNote → Option Kernel → Option Kernel
kernel_noted (note.Head kernel limit total_bw) before = kernel
kernel_noted other before = before

-- a rule of timers
abbrev pub retimed : (Timed → Timed) → Shown → Shown
retimed f s = record s { timed = f s.timed }

-- a line of a probe more
abbrev pub probe_taken : ShownProbe → Shown → Shown
probe_taken p s = record s {
  probes = s.probes ++ p ∷ [];
  dequeues = s.dequeues || shows_dequeue p.probe;
  timers = s.timers || arms_timer p.probe;
  timed = probe_came s.timed;
}

abbrev pub with_probe : ShownProbe → Shown → Shown
with_probe p s = probe_taken p (retimed (probe_seen p.cpu) s)

-- an event more
abbrev pub with_said : ℕ → ℕ → ℕ → ℕ → Said → Shown → Shown
with_said line at cpu pid (said.Probe probe) s = with_probe (record { line = line; at = at; cpu = cpu; pid = pid; probe = probe }) s
with_said line at cpu pid (said.Fixed fixed) s = retimed (with_event_line (record { line = line; at = at; cpu = cpu; pid = pid; fixed = fixed })) s

-- a line more, of this number
abbrev pub shown_with : ℕ → RecordLine → Shown → Shown
shown_with n (Event at grain cpu pid said) s = with_said n at cpu pid said s
shown_with n (Note note) s = record s { kernel = kernel_noted note s.kernel; timed = noted note s.timed }
shown_with n other s = s

-- each line that has no flaw is taken, and more is wanted
abbrev pub with_line : ℕ → ToldLine (List ℕ) → Shown → After Shown
with_line n told s = record { more = true; seen = shown_with n told.line (retimed (with_told n told) s) }

abbrev pub nothing_shown : CheckOptions → Bool → Shown
nothing_shown o beside = record { probes = []; kernel = None; dequeues = false; timers = false; timed = timed_at_first o beside }

-- what the lines of a text show, by these options, where lines of timers are kept beside lines of probes or not
unfoldable pub shown_by : CheckOptions → Bool → List ℕ → Shown
shown_by o beside text = (reading with_line text (nothing_shown o beside)).seen

-- a line as it was read; how the program names its event is left out
abbrev pub as_read : ProbeLine → ShownProbe
as_read l = record { line = l.place.line; at = l.place.at; cpu = l.place.cpu; pid = l.place.pid; probe = l.probe }
