use Rattle.std.proofs.lemmas.Result.{IfOk-weaker}
use Rattle.grubtrace.proofs.AddingLemmas.{adds_given, takes_more, takes_one}
use Rattle.grubtrace.proofs.command.size_command.Goals as goal

pub returns : goal.returns
returns c =
    let sizing = takes_more c.command_of-command.ensures c.in_ok-command.ensures in
    let runqueues = takes_more sizing (adds_given c.in_ok-with_runqueues.ensures c.sized_rt_arg.ensures c.sized_fair_arg.ensures) in
    let picture = takes_one runqueues c.in_ok-arg.ensures c.picture_arg.ensures in
    IfOk-weaker c.arg-2.result _ _ (λ made added. takes_one picture added c.trace_arg.ensures) c.arg-2.ensures
