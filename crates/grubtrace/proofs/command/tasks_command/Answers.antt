use Rattle.std.proofs.lemmas.Result.{IfOk-weaker}
use Rattle.grubtrace.proofs.AddingLemmas.{takes_one}
use Rattle.grubtrace.proofs.command.tasks_command.Goals as goal

pub returns : goal.returns
returns c = IfOk-weaker c.arg.result _ _ (λ made added. takes_one c.command_of.ensures added c.trace_arg.ensures) c.arg.ensures
