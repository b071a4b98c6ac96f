use Rattle.kernel_laws.proofs.sums.moves_balance.Goals as goal
use Rattle.kernel_laws.proofs.SumLemmas.{move_balances}

pub returns : goal.returns
returns c = move_balances
