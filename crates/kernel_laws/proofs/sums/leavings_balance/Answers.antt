use Rattle.kernel_laws.proofs.sums.leavings_balance.Goals as goal
use Rattle.kernel_laws.proofs.MoreSums.{leave_balances}

pub returns : goal.returns
returns c = leave_balances
