use Rattle.probe_explain.proofs.Taking.{one_then, then_finishes}
use Rattle.probe_explain.proofs.play.Play.finish.Goals as goal

pub returns-clause-all : goal.returns-clause-all
returns-clause-all g c = then_finishes _ _ _ c.in_ok-play_all.ensures (then_finishes _ _ _ c.in_ok-move_at_end.ensures c.in_ok-end.ensures.all)

pub returns-clause-same : goal.returns-clause-same
returns-clause-same g c = one_then _ _ _ c.in_ok-play_all.ensures (one_then _ _ _ c.in_ok-move_at_end.ensures c.in_ok-end.ensures.same)
