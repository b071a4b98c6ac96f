use Rattle.kernel_laws.proofs.waiting.dequeues_wait.Goals as goal
use Rattle.kernel_laws.proofs.WaitLemmas.{dequeue_waits}

pub returns : goal.returns
returns c = dequeue_waits
