use Rattle.kernel_laws.proofs.waiting.timers_wait.Goals as goal
use Rattle.kernel_laws.proofs.WaitLemmas.{timer_waits}

pub returns : goal.returns
returns c = timer_waits
