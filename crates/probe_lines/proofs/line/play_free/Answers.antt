use Rattle.std.proofs.Common.{◌≡◌, Bool, subst}
use Rattle.probe_run.specs.Runs.{state_of}
use Rattle.probe_run.specs.Counting.{Goes}
use Rattle.probe_lines.specs.Lines.{before_line, played_by}
use Rattle.probe_values.proofs.Steps.{after}
use Rattle.probe_lines.proofs.line.play_free.Goals as goal

pub returns : goal.returns
returns c = λ plain whole.
    let s = state_of c.args.run.now in let p = c.args.place in let l = c.args.probe.now in let t = c.args.rules in
    let P : Bool → Type 0 = λ first. Goes s (played_by t (before_line s p l) p l c.args.choice first) (state_of c.play.new.run) in
    subst P c.is_first-first.ensures (after (λ r. before_line r p l) (λ r. played_by t r p l c.args.choice c.is_first-first.result) s (state_of c.begin.new.run) (state_of c.play.new.run)
    c.in_ok-begin.ensures.state c.in_ok-begin.ensures.first (c.in_ok-play.ensures plain whole))
