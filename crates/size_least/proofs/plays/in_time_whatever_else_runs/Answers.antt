use Rattle.size_least.proofs.Renewed.{fresh-end}
use Rattle.size_least.proofs.plays.in_time_whatever_else_runs.Goals as goal

pub returns : goal.returns
returns c = fresh-end
