use Rattle.probe_explain.proofs.runs.lines_decide.Goals as goal
use Rattle.probe_explain.proofs.NothingPendingLemmas.{lines_decide}

pub returns : goal.returns
returns c = lines_decide
