use Rattle.kernel_laws.proofs.law.recharges_are_least.Goals as goal
use Rattle.kernel_laws.proofs.RechargeLemmas.{recharges_least}

pub returns : goal.returns
returns c = recharges_least
