use Rattle.kernel_laws.proofs.waiting.charges_throttle.Goals as goal
use Rattle.kernel_laws.proofs.WaitLemmas.{charge_throttles}

pub returns : goal.returns
returns c = charge_throttles
