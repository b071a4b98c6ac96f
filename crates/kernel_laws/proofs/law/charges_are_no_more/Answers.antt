use Rattle.kernel_laws.proofs.law.charges_are_no_more.Goals as goal
use Rattle.kernel_laws.proofs.LawLemmas.{charges_no_more}

pub returns : goal.returns
returns c = charges_no_more
