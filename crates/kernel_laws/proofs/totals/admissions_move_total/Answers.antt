use Rattle.kernel_laws.proofs.totals.admissions_move_total.Goals as goal
use Rattle.kernel_laws.proofs.TotalLemmas.{admission_moves_total}

pub returns : goal.returns
returns c = admission_moves_total
