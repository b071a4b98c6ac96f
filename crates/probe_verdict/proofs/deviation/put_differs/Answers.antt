use Rattle.std.proofs.lemmas.Result.{on_ok_weaker}
use Rattle.probe_verdict.proofs.Extending.{through}
use Rattle.probe_verdict.proofs.deviation.put_differs.Goals as goal

pub returns : goal.returns
returns c =
    let placed = through c.in_ok-put_count.ensures c.in_ok-put_place.ensures in
    let compared = through placed c.in_ok-put_comparison.ensures in
    on_ok_weaker c.put_since.result (λ more. through compared more) c.put_since.ensures
