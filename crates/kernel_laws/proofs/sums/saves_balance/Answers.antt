use Rattle.kernel_laws.proofs.sums.saves_balance.Goals as goal
use Rattle.kernel_laws.proofs.SumLemmas.{save_balances}

pub returns : goal.returns
returns c = save_balances
