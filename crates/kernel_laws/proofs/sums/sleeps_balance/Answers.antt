use Rattle.kernel_laws.proofs.sums.sleeps_balance.Goals as goal
use Rattle.kernel_laws.proofs.SumLemmas.{sleep_balances}

pub returns : goal.returns
returns c = sleep_balances
