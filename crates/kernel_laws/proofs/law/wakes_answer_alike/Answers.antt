use Rattle.kernel_laws.proofs.law.wakes_answer_alike.Goals as goal
use Rattle.kernel_laws.proofs.WakeLemmas.{answers_alike}

pub returns : goal.returns
returns c = answers_alike
