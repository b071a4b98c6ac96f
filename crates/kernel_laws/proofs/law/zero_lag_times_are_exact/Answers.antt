use Rattle.kernel_laws.proofs.law.zero_lag_times_are_exact.Goals as goal
use Rattle.kernel_laws.proofs.ZeroLagLemmas.{zero_lag_is_exact}

pub returns : goal.returns
returns c = zero_lag_is_exact
