use Rattle.probe_run.specs.Runs.{state_of}
use Rattle.probe_lines.specs.Lines.{before_line, played_by, is_first_of}
use Rattle.probe_values.proofs.Steps.{then_goes}
use Rattle.probe_lines.proofs.line.play_checked.Goals as goal

pub returns : goal.returns
returns c = λ plain whole.
    let p = c.args.place in let l = c.args.probe.now in let t = c.args.rules in
    then_goes (λ r. played_by t (before_line r p l) p l c.args.choice (is_first_of t r p.cpu)) (state_of c.args.run.now) (state_of c.check_line.new.run) (state_of c.play_free.new.run) _
    c.in_ok-check_line.ensures (c.in_ok-play_free.ensures plain whole)
