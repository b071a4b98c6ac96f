use Rattle.std.proofs.lemmas.Result.{IfOk-weaker}
use Rattle.grubtrace.proofs.AddingLemmas.{takes_more, takes_one}
use Rattle.grubtrace.proofs.check_command.check_command.Goals as goal

pub returns : goal.returns
returns c =
    let tasks = takes_more c.command_of-command.ensures c.in_ok-command.ensures in
    let kernel = takes_more tasks c.in_ok-command-2.ensures in
    let comparison = takes_more kernel c.in_ok-command-3.ensures in
    let written = takes_more comparison c.in_ok-with_options.ensures in
    IfOk-weaker c.arg.result _ _ (λ made added. takes_one written added c.requires.trace) c.arg.ensures
