-- What notes say of the CPUs of a machine.
use Rattle.std.specs.Prelude.{ℕ, Bool, true, ◌==◌, Option, None, unwrap_or, List, position}
use Rattle.probe_findings.specs.declared.settings.ServerNote.{ServerNote}
use Rattle.probe_run.specs.State.{found_at}
use Rattle.probe_run.specs.declared.rules.Processor.{Processor}
use Rattle.probe_start.specs.declared.notes.CpuNote.{CpuNote}

-- what is said of a CPU, of which nothing may be said
abbrev pub is_note_of : ℕ → CpuNote → Bool
is_note_of cpu n = n.cpu == cpu

abbrev pub cpu_note_of : List CpuNote → ℕ → CpuNote
cpu_note_of ns cpu = unwrap_or (found_at ns (position (is_note_of cpu) ns)) (record { cpu = cpu; domain = None; capacity = None })

abbrev pub is_server_of : ℕ → ServerNote → Bool
is_server_of cpu n = n.cpu == cpu

abbrev pub server_note_of : List ServerNote → ℕ → Option ServerNote
server_note_of ns cpu = found_at ns (position (is_server_of cpu) ns)

-- each CPU is active as a record begins
abbrev pub noted_processor : CpuNote → Processor
noted_processor n = record { cpu = n.cpu; domain = n.domain; is_active = true; capacity = n.capacity }
