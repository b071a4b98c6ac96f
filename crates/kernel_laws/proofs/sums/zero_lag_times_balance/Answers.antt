use Rattle.kernel_laws.proofs.sums.zero_lag_times_balance.Goals as goal
use Rattle.kernel_laws.proofs.SumLemmas.{zero_lag_balances}

pub returns : goal.returns
returns c = zero_lag_balances
