use Rattle.std.proofs.lemmas.Result.{on_ok_weaker}
use Rattle.probe_verdict.proofs.Extending.{through}
use Rattle.probe_verdict.proofs.deviation.put_broken.Goals as goal

pub returns-in-Ratio : goal.returns-in-Ratio
returns-in-Ratio c = on_ok_weaker c.put_ratio.result (λ more. through (record { rest = _; is = c.in_ok-put.ensures }) more) c.put_ratio.ensures

pub returns : goal.returns
returns c = on_ok_weaker c.put_clock.result (λ more. through (record { rest = _; is = c.in_ok-put.ensures }) more) c.put_clock.ensures
