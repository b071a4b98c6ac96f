use Rattle.probe_lines.specs.Servers.{stopped_next}
use Rattle.probe_values.proofs.Steps.{then_made}
use Rattle.probe_lines.proofs.servers.stop.Goals as goal

pub returns : goal.returns
returns c = λ plain whole.
    let q = c.args.of in
    then_made (λ s. stopped_next c.args.rules s q.place q.number q.actor c.args.line) _ _ _ _
    (c.in_ok-check_server.ensures whole) c.in_ok-keep_stop.ensures.first (c.in_ok-keep_stop.ensures.state plain whole)
