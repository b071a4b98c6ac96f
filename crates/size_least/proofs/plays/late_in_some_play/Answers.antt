use Rattle.size_least.proofs.LateInPlays.{late-somewhere}
use Rattle.size_least.proofs.plays.late_in_some_play.Goals as goal

pub returns : goal.returns
returns c = late-somewhere
