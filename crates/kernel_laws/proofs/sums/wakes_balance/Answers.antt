use Rattle.kernel_laws.proofs.sums.wakes_balance.Goals as goal
use Rattle.kernel_laws.proofs.EnqueueLemmas.{wake_balances}

pub returns : goal.returns
returns c = wake_balances
