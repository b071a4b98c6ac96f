use Rattle.kernel_laws.proofs.totals.zero_lag_times_move_total.Goals as goal
use Rattle.kernel_laws.proofs.TotalLemmas.{zero_lag_moves_total}

pub returns : goal.returns
returns c = zero_lag_moves_total
