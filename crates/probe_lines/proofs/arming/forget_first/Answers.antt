use Rattle.probe_run.specs.Runs.{state_of}
use Rattle.probe_run.specs.Sums.{forget}
use Rattle.probe_values.proofs.Steps.{made}
use Rattle.probe_lines.proofs.arming.forget_first.Goals as goal

pub returns : goal.returns
returns c =
    made (state_of c.args.run.now) (state_of c.forget.new.self) (forget (state_of c.args.run.now) c.args.cpu) c.in_ok-forget.ensures.state c.in_ok-forget.ensures.first
