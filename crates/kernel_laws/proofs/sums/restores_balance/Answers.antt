use Rattle.kernel_laws.proofs.sums.restores_balance.Goals as goal
use Rattle.kernel_laws.proofs.EnqueueLemmas.{restore_balances}

pub returns : goal.returns
returns c = restore_balances
