use Rattle.kernel_laws.proofs.totals.leavings_move_total.Goals as goal
use Rattle.kernel_laws.proofs.TotalLemmas.{leave_moves_total}

pub returns : goal.returns
returns c = leave_moves_total
