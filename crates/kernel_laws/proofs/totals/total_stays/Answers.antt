use Rattle.kernel_laws.proofs.totals.total_stays.Goals as goal
use Rattle.kernel_laws.proofs.TotalLemmas.{total_stays}

pub returns : goal.returns
returns c = total_stays
