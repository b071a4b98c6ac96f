use Rattle.kernel_laws.proofs.sums.sums_stay.Goals as goal
use Rattle.kernel_laws.proofs.MoreSums.{sums_stay}

pub returns : goal.returns
returns c = sums_stay
