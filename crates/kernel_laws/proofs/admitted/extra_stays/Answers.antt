use Rattle.kernel_laws.proofs.admitted.extra_stays.Goals as goal
use Rattle.kernel_laws.proofs.AdmittingLemmas.{taken_stays}

pub returns : goal.returns
returns c = taken_stays
