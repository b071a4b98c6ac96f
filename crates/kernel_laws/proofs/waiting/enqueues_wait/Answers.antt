use Rattle.kernel_laws.proofs.waiting.enqueues_wait.Goals as goal
use Rattle.kernel_laws.proofs.WaitLemmas.{enqueue_waits}

pub returns : goal.returns
returns c = enqueue_waits
