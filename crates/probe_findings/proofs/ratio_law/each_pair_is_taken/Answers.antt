use Rattle.probe_findings.proofs.ratio_law.each_pair_is_taken.Goals as goal
use Rattle.probe_findings.proofs.RatioLemmas.{each_is_taken}

pub returns : goal.returns
returns c = each_is_taken
