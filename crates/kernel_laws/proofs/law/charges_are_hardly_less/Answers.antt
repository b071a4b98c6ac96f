use Rattle.kernel_laws.proofs.law.charges_are_hardly_less.Goals as goal
use Rattle.kernel_laws.proofs.LawLemmas.{charges_hardly_less}

pub returns : goal.returns
returns c = charges_hardly_less
