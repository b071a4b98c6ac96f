use Rattle.probe_findings.proofs.law.first_is_first.Goals as goal
use Rattle.probe_findings.proofs.First.{none_where_all_equal, found_is_first}

pub returns-clause-none : goal.returns-clause-none
returns-clause-none c = none_where_all_equal

pub returns-clause-first : goal.returns-clause-first
returns-clause-first c = found_is_first
