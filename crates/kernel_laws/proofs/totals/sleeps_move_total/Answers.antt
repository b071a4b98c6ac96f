use Rattle.kernel_laws.proofs.totals.sleeps_move_total.Goals as goal
use Rattle.kernel_laws.proofs.TotalLemmas.{sleep_moves_total}

pub returns : goal.returns
returns c = sleep_moves_total
