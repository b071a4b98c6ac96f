-- What a line of a record tells.
use Rattle.std.specs.Prelude.{ℕ, true, false, ◌==◌, nat_le, max, List, length, take, reverse, position, slice_range, Option, Some, None, if◌then◌else◌, option_map, option_and_then}
use Rattle.std.specs.Option.{option_map_or}
use Rattle.text_bytes.specs.Lines.{word_of, words_of}
use Rattle.trace_fields.specs.Words.{without_spaces}
use Rattle.trace_fields.specs.Opening.{opening_of, running, running_comm}
use Rattle.trace_fields.specs.Head.{is_comment, is_lost, processors}
use Rattle.trace_fields.specs.declared.opening.CpuWord.{CpuWord}
use Rattle.trace_fields.specs.declared.opening.Opening.{Opening}
use Rattle.trace_probes.specs.Shown.{probe_of}
use Rattle.trace_probes.specs.declared.shown.ProbeEvent.{ProbeEvent}
use Rattle.trace_data.specs.declared.fixed.Fixed.{Fixed}
use Rattle.trace_data.specs.declared.fixed.Fixed.TheVariants as fixed
use Rattle.trace_data.specs.declared.line.Flaw.{Flaw}
use Rattle.trace_data.specs.declared.line.Flaw.TheVariants.{LostEvents, TooLong, BadTraceLine}
use Rattle.trace_data.specs.declared.line.RecordLine.{RecordLine}
use Rattle.trace_data.specs.declared.line.RecordLine.TheVariants as line
use Rattle.trace_data.specs.declared.line.Said.{Said}
use Rattle.trace_data.specs.declared.line.Said.TheVariants as said
use Rattle.trace_data.specs.declared.note.TraceNote.{TraceNote}
use Rattle.trace_data.specs.declared.note.TraceNote.TheVariants as note
use Rattle.trace_data.specs.declared.probe.Mark.{Mark}
use Rattle.trace_data.specs.declared.probe.Mark.TheVariants as mark
use Rattle.trace_data.specs.declared.probe.Probe.{Probe}
use Rattle.trace_data.specs.declared.probe.Probe.TheVariants as probe
use Rattle.trace_lines.specs.Changes.{change_of}
use Rattle.trace_lines.specs.Fixed.{alone, cancelled, fired, migrated, ran, started, switched, woken}
use Rattle.trace_lines.specs.Notes.{note_of}
use Rattle.trace_lines.specs.Scheduled.{waking}
use Rattle.trace_lines.specs.Verbs.{is_waking, verb_of}
use Rattle.trace_lines.specs.declared.fixed.Named.{Named}
use Rattle.trace_lines.specs.declared.line.ToldLine.{ToldLine}
use Rattle.trace_lines.specs.declared.note.Noted.{Noted}
use Rattle.trace_lines.specs.declared.note.Noted.TheVariants as noted
use Rattle.trace_lines.specs.declared.verb.Verb.{Verb}
use Rattle.trace_lines.specs.declared.verb.Verb.TheVariants as verb
use Rattle.trace_lines.specs.declared.word.TheConstants.{CPUS}

-- a line with nothing beside it
abbrev pub told_line : RecordLine → ToldLine (List ℕ)
told_line told = record { line = told; shown = None; domain = None; release = None; lost = None; processors = None; warning = None; governor = None; change = None; scheduled = None }

abbrev pub note_cpu : TraceNote → ℕ
note_cpu (note.Runqueue cpu sums domain server) = cpu
note_cpu (note.Capacity cpu capacity) = cpu
note_cpu (note.Task pid at by cpu policy) = cpu
note_cpu other = 0

abbrev pub note_line : TraceNote → RecordLine
note_line told = if nat_le CPUS (note_cpu told) then line.Flawed TooLong else line.Note told

-- a line of the head that says how many processors there are
abbrev pub head_line : Option ℕ → ToldLine (List ℕ)
head_line count = record { line = line.Quiet; shown = None; domain = None; release = None; lost = None; processors = count; warning = None; governor = None; change = None; scheduled = None }

abbrev pub noted_line : List ℕ → Noted (List ℕ) → ToldLine (List ℕ)
noted_line text noted.Quiet = head_line (processors text)
noted_line text (noted.Head note domain release) = record { line = note_line note; shown = None; domain = domain; release = release; lost = None; processors = None; warning = None; governor = None; change = None; scheduled = None }
noted_line text (noted.Task note pid comm) = record { line = note_line note; shown = Some (record { comm = comm; pid = pid }); domain = None; release = None; lost = None; processors = None; warning = None; governor = None; change = None; scheduled = None }
noted_line text (noted.Other note) = told_line (note_line note)
noted_line text (noted.Lost lost) = record { line = line.Quiet; shown = None; domain = None; release = None; lost = Some lost; processors = None; warning = None; governor = None; change = None; scheduled = None }
noted_line text (noted.Governor governed) = record { line = line.Quiet; shown = None; domain = None; release = None; lost = None; processors = None; warning = None; governor = Some governed; change = None; scheduled = None }
noted_line text (noted.Warning warned) = record { line = line.Quiet; shown = None; domain = None; release = None; lost = None; processors = None; warning = Some warned; governor = None; change = None; scheduled = None }

abbrev pub comment_by : List ℕ → Option (Noted (List ℕ)) → ToldLine (List ℕ)
comment_by text None = told_line (line.Flawed BadTraceLine)
comment_by text (Some noted) = noted_line text noted

-- what a line tells that begins with #
abbrev pub comment_line : List ℕ → ToldLine (List ℕ)
comment_line text = comment_by text (note_of text)

-- how far a moment may be off behind whose point so many bytes stand: six to nine digits and a colon
abbrev pub grain_behind : ℕ → ℕ
grain_behind count = if count == 7 then 1000 else (if count == 8 then 100 else (if count == 9 then 10 else 1))

-- how far the moment may be off with which a text ends
abbrev pub grain_of : List ℕ → ℕ
grain_of text = option_map_or grain_behind (position (λ b. b == 46) (reverse text)) 1

abbrev pub fixed_cpu : Fixed → ℕ
fixed_cpu (fixed.Woken pid deadline cpu) = cpu
fixed_cpu (fixed.Migrated pid deadline cpu) = cpu
fixed_cpu other = 0

abbrev pub mark_cpu : Mark → ℕ
mark_cpu (mark.DomainAttached cpu domain) = cpu
mark_cpu (mark.BandwidthTaken cpu) = cpu
mark_cpu (mark.BandwidthFreed cpu) = cpu
mark_cpu (mark.LimitHandled write) = 0
mark_cpu (mark.TaskRebuilt pid policy) = 0
mark_cpu (mark.AffinitySet pid cpu) = cpu
mark_cpu (mark.ServerChanged cpu runtime period) = cpu
mark_cpu (mark.CpuDeactivated cpu) = cpu
mark_cpu (mark.CpuActivated cpu) = cpu

abbrev pub probe_cpu : Probe → ℕ
probe_cpu (probe.Enqueued p) = p.cpu
probe_cpu (probe.Updated p) = p.cpu
probe_cpu (probe.Dequeued p) = p.cpu
probe_cpu (probe.LeftClass p) = p.cpu
probe_cpu (probe.Admitted p) = p.cpu
probe_cpu (probe.ServerStarted p) = p.cpu
probe_cpu (probe.Picked p) = p.cpu
probe_cpu (probe.ServerStopped p) = p.cpu
probe_cpu (probe.ServerIdled p) = p.cpu
probe_cpu (probe.Mark m) = mark_cpu m
probe_cpu other = 0

-- the CPU that an event names beside its line's, or 0
abbrev pub said_cpu : Said → ℕ
said_cpu (said.Fixed f) = fixed_cpu f
said_cpu (said.Probe p) = probe_cpu p

-- what is wrong with a line of an event
abbrev pub flaw_of : ℕ → Said → Option Flaw
flaw_of cpu said = if nat_le CPUS (max cpu (said_cpu said)) then Some TooLong else None

-- a line of a probe shows the task that runs
abbrev pub probed : ProbeEvent → List ℕ → List ℕ → ℕ → Option (Named (List ℕ))
probed event fields front pid =
    option_map (λ p. record { said = said.Probe p; shown = Some (record { comm = running_comm front; pid = pid }); scheduled = None }) (probe_of event (words_of fields))

-- what the fields of an event say, while the task of this pid runs
abbrev pub said_by : Verb → List ℕ → List ℕ → ℕ → Option (Named (List ℕ))
said_by verb.Wake fields front pid = woken false fields
said_by verb.WakeNew fields front pid = woken true fields
said_by verb.Migrate fields front pid = migrated fields
said_by verb.Run fields front pid = ran fields
said_by verb.Switch fields front pid = switched fields
said_by verb.Start fields front pid = started fields
said_by verb.Cancel fields front pid = cancelled fields
said_by verb.Expire fields front pid = fired fields
said_by verb.Call fields front pid = Some (alone fixed.PolicyCalled)
said_by verb.Return fields front pid = Some (alone fixed.PolicyReturned)
said_by (verb.Probe event) fields front pid = probed event fields front pid

abbrev pub unflawed : Option Flaw → ℕ → ℕ → ℕ → ℕ → Named (List ℕ) → ToldLine (List ℕ)
unflawed None at grain cpu pid named = record { line = line.Event at grain cpu pid named.said; shown = named.shown; domain = None; release = None; lost = None; processors = None; warning = None; governor = None; change = None; scheduled = named.scheduled }
unflawed (Some flaw) at grain cpu pid named = told_line (line.Flawed flaw)

-- what a line tells whose event says this
abbrev pub checked : ℕ → ℕ → ℕ → ℕ → Named (List ℕ) → ToldLine (List ℕ)
checked at grain cpu pid named = unflawed (flaw_of cpu named.said) at grain cpu pid named

-- what a line of an event tells, before whose CPU this stands, while the task of this pid runs
abbrev pub told_running : Opening → ℕ → ℕ → Verb → List ℕ → List ℕ → ℕ → Option (ToldLine (List ℕ))
told_running opening grain cpu verb fields front pid =
    option_map (λ named. checked opening.at grain cpu pid named) (said_by verb fields front pid)

-- what a line of an event tells whose CPU stands there
abbrev pub told_at : List ℕ → Opening → Verb → List ℕ → CpuWord → Option (ToldLine (List ℕ))
told_at text opening verb fields c =
    option_and_then (told_running opening (grain_of (take opening.end text)) c.cpu verb fields (take c.start text)) (running (take c.start text))

-- what a line of an event tells
abbrev pub told_said : List ℕ → Opening → Verb → List ℕ → Option (ToldLine (List ℕ))
told_said text opening verb fields = option_and_then (told_at text opening verb fields) opening.cpu

abbrev pub said_or_bad : Option (ToldLine (List ℕ)) → ToldLine (List ℕ)
said_or_bad None = told_line (line.Flawed BadTraceLine)
said_or_bad (Some told) = told

-- what a line tells that names none of the events above
abbrev pub other_line : Opening → List ℕ → List ℕ → ToldLine (List ℕ)
other_line opening word fields =
    record (told_line line.Quiet) { change = change_of word fields; scheduled = if is_waking word then Some (waking opening fields) else None }

abbrev pub line_by : List ℕ → Opening → List ℕ → List ℕ → Option Verb → ToldLine (List ℕ)
line_by text opening word fields None = other_line opening word fields
line_by text opening word fields (Some verb) = said_or_bad (told_said text opening verb fields)

-- what a line tells whose opening is known, by the text behind its moment
abbrev pub line_behind : List ℕ → Opening → List ℕ → ToldLine (List ℕ)
line_behind text opening behind =
    line_by text opening (word_of behind) (slice_range behind (length (word_of behind)) (length behind)) (verb_of (word_of behind))

abbrev pub event_line : List ℕ → Option Opening → ToldLine (List ℕ)
event_line text None = told_line line.Quiet
event_line text (Some opening) = line_behind text opening (without_spaces (slice_range text opening.end (length text)))

-- what a line tells, without the byte that ends it
abbrev pub told_by : List ℕ → ToldLine (List ℕ)
told_by text = if is_lost text then told_line (line.Flawed LostEvents) else (if is_comment text then comment_line text else event_line text (opening_of text))
