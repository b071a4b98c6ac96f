use Rattle.std.proofs.Common.{refl}
use Rattle.probe_explain.proofs.Taking.{refused, refused_same}
use Rattle.probe_explain.proofs.play.Play.refuse_last.Goals as goal

pub returns-clause-all : goal.returns-clause-all
returns-clause-all c = refused _ _ c.in_ok-refuse.ensures

pub returns-clause-same : goal.returns-clause-same
returns-clause-same c = refused_same _ _ refl refl c.in_ok-refuse.ensures
