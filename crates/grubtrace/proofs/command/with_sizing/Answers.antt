use Rattle.std.proofs.lemmas.Result.{IfOk-weaker}
use Rattle.grubtrace.proofs.AddingLemmas.{adds_more, adds_none}
use Rattle.grubtrace.proofs.command.with_sizing.Goals as goal

pub returns : goal.returns
returns c =
    let one = adds_more (adds_none _) c.in_ok-arg.ensures c.sized_task_arg.ensures in
    let two = adds_more one c.in_ok-arg-2.ensures c.task_within_arg.ensures in
    let three = adds_more two c.in_ok-arg-3.ensures c.late_arg.ensures in
    IfOk-weaker c.arg-4.result _ _ (λ four added. adds_more three added c.margin_arg.ensures) c.arg-4.ensures
