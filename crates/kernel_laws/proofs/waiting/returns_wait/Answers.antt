use Rattle.kernel_laws.proofs.waiting.returns_wait.Goals as goal
use Rattle.kernel_laws.proofs.WaitLemmas.{return_waits}

pub returns : goal.returns
returns c = return_waits
