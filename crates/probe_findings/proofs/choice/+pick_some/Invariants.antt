use Rattle.std.proofs.Common.{length}
use Rattle.probe_findings.proofs.choice.+pick_some.Given as goal

abbrev pub decreases-pick_some : goal.decreases-pick_some
decreases-pick_some l = length l.amounts.now
