use Rattle.probe_lines.specs.Servers.{started_next}
use Rattle.probe_values.proofs.Steps.{then_made}
use Rattle.probe_lines.proofs.servers.start.Goals as goal

pub returns : goal.returns
returns c = λ whole.
    let q = c.args.of in
    then_made (λ s. started_next s q.place q.number q.actor c.args.line) _ _ _ _
    (c.in_ok-check_server.ensures whole) c.in_ok-keep_start.ensures.first (c.in_ok-keep_start.ensures.state whole)
