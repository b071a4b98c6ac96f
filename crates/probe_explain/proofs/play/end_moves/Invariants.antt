use Rattle.std.proofs.Common.{[]}
use Rattle.probe_run.specs.Runs.{state_of}
use Rattle.probe_explain.specs.inside.Playing.{IsPlayed}
use Rattle.probe_explain.proofs.play.end_moves.Given as goal

abbrev pub invariant-moves : goal.invariant-moves
invariant-moves g l = IsPlayed l.rules (state_of l.initial.run) [] (state_of l.run)
