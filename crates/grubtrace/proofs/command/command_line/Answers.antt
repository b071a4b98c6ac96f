use Rattle.std.proofs.lemmas.Result.{IfOk-weaker}
use Rattle.grubtrace.proofs.AddingLemmas.{has_more}
use Rattle.grubtrace.proofs.command.command_line.Goals as goal

pub returns : goal.returns
returns c =
    let tasks = has_more c.program.ensures c.in_ok-subcommand.ensures c.in_ok-tasks_command.ensures in
    let events = has_more tasks c.in_ok-subcommand-2.ensures c.in_ok-events_command.ensures in
    let check = has_more events c.in_ok-subcommand-3.ensures c.in_ok-check_command.ensures in
    IfOk-weaker c.subcommand-4.result _ _ (λ made added. has_more check added c.in_ok-size_command.ensures) c.subcommand-4.ensures
