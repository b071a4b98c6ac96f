use Rattle.probe_explain.proofs.Taking.{same}
use Rattle.probe_explain.proofs.play.Play.play_due.Goals as goal

pub returns-else-len-self : goal.returns-else-len-self
returns-else-len-self g c = same c.args.self.now
