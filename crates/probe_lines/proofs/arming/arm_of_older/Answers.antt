use Rattle.probe_run.specs.Runs.{state_of}
use Rattle.probe_lines.specs.Timers.{armed_of_older}
use Rattle.probe_values.proofs.Steps.{made}
use Rattle.probe_lines.proofs.arming.arm_of_older.Goals as goal

pub returns : goal.returns
returns c =
    made (state_of c.args.run.now) (state_of c.own_older.new.run) (armed_of_older (state_of c.args.run.now) c.args.line c.args.older) c.in_ok-own_older.ensures.state c.in_ok-own_older.ensures.first
