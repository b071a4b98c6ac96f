use Rattle.probe_run.specs.Moves.{met_with, without_claim}
use Rattle.probe_run.proofs.Steps.{after}
use Rattle.probe_run.proofs.run.Run.meet_found.Goals as goal

pub returns : goal.returns
returns c = after (λ s. without_claim s c.args.index) (λ s. met_with s c.args.claim) _ _ _ c.drop_claim.ensures.state c.drop_claim.ensures.first c.in_ok-meet_claim.ensures
