use Rattle.std.proofs.lemmas.Result.{IfOk-weaker}
use Rattle.grubtrace.proofs.AddingLemmas.{adds_given, takes_more, takes_one}
use Rattle.grubtrace.proofs.command.events_command.Goals as goal

pub returns : goal.returns
returns c =
    let task = takes_one c.command_of.ensures c.in_ok-command.ensures c.task_arg.ensures in
    let runqueues = takes_more task (adds_given c.in_ok-with_runqueues.ensures c.rt_arg.ensures c.fair_arg.ensures) in
    let out = takes_one runqueues c.in_ok-arg.ensures c.out_arg.ensures in
    IfOk-weaker c.arg-3.result _ _ (λ made added. takes_one out added c.trace_arg.ensures) c.arg-3.ensures
