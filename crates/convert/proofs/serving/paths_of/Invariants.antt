use Rattle.std.proofs.Common.{◌≡◌, map}
use Rattle.std.specs.Prelude.{string_bytes}
use Rattle.convert.specs.Serving.{event_paths}
use Rattle.convert.proofs.serving.paths_of.Given as goal

abbrev pub invariant-loop-runqueue : goal.invariant-loop-runqueue
invariant-loop-runqueue l = map string_bytes l.paths.items ≡ event_paths l.prefix l.runqueue
