use Rattle.kernel_laws.proofs.sums.admissions_balance.Goals as goal
use Rattle.kernel_laws.proofs.MoreSums.{admission_balances}

pub returns : goal.returns
returns c = admission_balances
