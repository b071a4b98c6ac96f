use Rattle.std.proofs.lemmas.Result.{IfOk-weaker}
use Rattle.grubtrace.proofs.AddingLemmas.{adds_more, adds_none}
use Rattle.grubtrace.proofs.check_command.with_comparison.Goals as goal

pub returns : goal.returns
returns c =
    let one = adds_more (adds_none _) c.in_ok-arg.ensures c.within_arg.ensures in
    let two = adds_more one c.in_ok-arg-2.ensures c.by_arg.ensures in
    let three = adds_more two c.in_ok-arg-3.ensures c.timers_arg.ensures in
    let four = adds_more three c.in_ok-arg-4.ensures c.laws_arg.ensures in
    IfOk-weaker c.arg-5.result _ _ (λ five added. adds_more four added c.why_arg.ensures) c.arg-5.ensures
