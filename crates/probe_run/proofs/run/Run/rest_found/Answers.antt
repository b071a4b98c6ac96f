use Rattle.std.proofs.Common.{sym}
use Rattle.probe_run.specs.Moves.{rest_with}
use Rattle.probe_run.proofs.Steps.{then_made}
use Rattle.probe_run.proofs.run.Run.rest_found.Goals as goal

pub returns : goal.returns
returns c = λ plain. rw (sym c.waits_for_enqueue.ensures) (then_made (λ s. rest_with c.args.rules s c.args.index c.args.rest) _ _ _ _ c.in_ok-allow.ensures c.in_ok-finish_rest.ensures.first (c.in_ok-finish_rest.ensures.state plain))
