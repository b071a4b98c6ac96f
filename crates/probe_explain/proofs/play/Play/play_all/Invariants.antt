use Rattle.probe_explain.specs.inside.Playing.{TakesNothing}
use Rattle.probe_explain.proofs.play.Play.play_all.Given as goal

abbrev pub invariant-lines : goal.invariant-lines
invariant-lines g l = TakesNothing l.initial.self l.self
