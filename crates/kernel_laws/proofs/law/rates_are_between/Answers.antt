use Rattle.kernel_laws.proofs.law.rates_are_between.Goals as goal
use Rattle.kernel_laws.proofs.LawLemmas.{rate_between}

pub returns : goal.returns
returns c = rate_between
