use Rattle.kernel_laws.proofs.law.charges_are_alike.Goals as goal
use Rattle.kernel_laws.proofs.LawLemmas.{charges_alike}

pub returns : goal.returns
returns c = charges_alike
