use Rattle.std.proofs.Common.{Some}
use Rattle.probe_run.specs.Sums.{put_sum}
use Rattle.probe_run.proofs.Steps.{then_made}
use Rattle.probe_run.proofs.run.Run.meet_claim.Goals as goal

pub returns : goal.returns
returns c = then_made (λ s. put_sum s c.args.claim.sum (Some c.args.claim.value)) _ _ _ _ c.in_ok-compare_claim.ensures c.in_ok-put_sum.ensures.first c.in_ok-put_sum.ensures.state
