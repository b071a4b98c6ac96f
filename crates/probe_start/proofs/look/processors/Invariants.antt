use Rattle.std.proofs.Common.{◌≡◌, ◌++◌, drop, map}
use Rattle.probe_start.specs.Notes.{noted_processor}
use Rattle.probe_start.proofs.look.processors.Given as goal

abbrev pub invariant-loop-note : goal.invariant-loop-note
invariant-loop-note l = l.processors.items ++ map noted_processor (drop l.note-index l.cpus) ≡ map noted_processor l.cpus
