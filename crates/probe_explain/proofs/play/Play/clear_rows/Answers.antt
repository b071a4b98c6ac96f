use Rattle.std.proofs.Common.{refl}
use Rattle.probe_explain.proofs.Taking.{alike}
use Rattle.probe_explain.proofs.play.Play.clear_rows.Goals as goal

pub returns-clause-lines : goal.returns-clause-lines
returns-clause-lines c = alike _ _ refl refl c.clear_rows.ensures
