use Rattle.probe_explain.proofs.runs.only_lines_come_next.Goals as goal
use Rattle.probe_explain.proofs.NothingPendingLemmas.{only_lines}

pub returns : goal.returns
returns c = only_lines
