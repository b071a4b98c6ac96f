use Rattle.std.proofs.lemmas.Result.{on_ok_weaker}
use Rattle.probe_verdict.proofs.Extending.{through}
use Rattle.probe_verdict.proofs.deviation.put_unruled.Goals as goal

pub returns-in_ok-put-in-RebuildTask : goal.returns-in_ok-put-in-RebuildTask
returns-in_ok-put-in-RebuildTask c =
    on_ok_weaker c.put_functions.result (λ more. through (record { rest = _; is = c.in_ok-put-in-RebuildTask.ensures }) more) c.put_functions.ensures
