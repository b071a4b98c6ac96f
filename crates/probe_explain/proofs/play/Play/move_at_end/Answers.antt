use Rattle.std.proofs.Common.{refl}
use Rattle.probe_explain.proofs.Taking.{moved}
use Rattle.probe_explain.proofs.play.Play.move_at_end.Goals as goal

pub returns : goal.returns
returns g c = moved _ _ refl refl c.in_ok-end_moves.ensures
