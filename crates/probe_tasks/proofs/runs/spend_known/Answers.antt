use Rattle.probe_tasks.specs.Runs.{spent_next}
use Rattle.probe_values.proofs.Steps.{then_made}
use Rattle.probe_tasks.proofs.runs.spend_known.Goals as goal

pub returns : goal.returns
returns c = λ plain whole.
    let q = c.args.charge in
    then_made (λ s. spent_next c.args.rules s q.place q.number c.args.actor q.line q.choice) _ _ _ _
    (c.in_ok-check_charge.ensures plain whole) c.in_ok-keep_charge.ensures.first (c.in_ok-keep_charge.ensures.state plain whole)
