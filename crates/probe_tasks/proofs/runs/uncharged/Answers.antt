use Rattle.probe_run.specs.Begin.{sums_read}
use Rattle.probe_values.proofs.Steps.{both, then_made}
use Rattle.probe_tasks.proofs.runs.uncharged.Goals as goal

pub returns : goal.returns
returns c = λ whole.
    then_made (λ s. sums_read s c.args.place c.args.line.cpu c.args.line.sums) _ _ _ _
    (both _ _ _ _ _ (c.in_ok-check_sums.ensures whole) c.in_ok-check_none.ensures) c.in_ok-read_sums.ensures.first (c.in_ok-read_sums.ensures.state whole)
