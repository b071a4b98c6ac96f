use Rattle.kernel_laws.proofs.waiting.charges_wait.Goals as goal
use Rattle.kernel_laws.proofs.WaitLemmas.{charge_waits}

pub returns : goal.returns
returns c = charge_waits
