use Rattle.probe_explain.proofs.Taking.{begins}
use Rattle.probe_explain.proofs.play.Play.new.Goals as goal

pub returns : goal.returns
returns c = begins _ _ c.new-2.ensures.items c.in_ok-new.ensures
