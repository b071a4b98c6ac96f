use Rattle.kernel_laws.proofs.sums.replenishments_balance.Goals as goal
use Rattle.kernel_laws.proofs.EnqueueLemmas.{replenish_balances}

pub returns : goal.returns
returns c = replenish_balances
