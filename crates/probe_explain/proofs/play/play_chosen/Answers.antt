use Rattle.probe_run.specs.Runs.{state_of}
use Rattle.probe_explain.proofs.Moves.{line_played}
use Rattle.probe_explain.proofs.play.play_chosen.Goals as goal

pub returns : goal.returns
returns c = line_played c.args.rules c.args.next.now c.args.choice (state_of c.args.run.now) (state_of c.play_line.new.run) c.in_ok-play_line.ensures
