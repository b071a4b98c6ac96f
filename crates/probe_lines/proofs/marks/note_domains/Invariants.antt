use Rattle.std.proofs.Common.{◌≡◌}
use Rattle.probe_run.specs.Runs.{state_of}
use Rattle.probe_lines.proofs.marks.note_domains.Given as goal

abbrev pub invariant-cpus : goal.invariant-cpus
invariant-cpus l = state_of l.run ≡ state_of l.initial.run
