use Rattle.kernel_laws.proofs.totals.others_keep_total.Goals as goal
use Rattle.kernel_laws.proofs.TotalLemmas.{others_keep_total}

pub returns : goal.returns
returns c = others_keep_total
