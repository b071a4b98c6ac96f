use Rattle.std.proofs.lemmas.Result.{IfOk-weaker}
use Rattle.grubtrace.proofs.AddingLemmas.{adds_more, adds_none}
use Rattle.grubtrace.proofs.check_command.with_kernel.Goals as goal

pub returns : goal.returns
returns c =
    let one = adds_more (adds_none _) c.in_ok-arg.ensures c.rt_arg.ensures in
    let two = adds_more one c.in_ok-arg-2.ensures c.requires in
    IfOk-weaker c.arg-3.result _ _ (λ three added. adds_more two added c.kernel_arg.ensures) c.arg-3.ensures
