use Rattle.std.proofs.Common.{refl}
use Rattle.std.proofs.lemmas.Result.{IfOk-weaker}
use Rattle.grubrun.proofs.RoundsLemmas.{with_other}
use Rattle.grubrun.proofs.command.command.Goals as goal

pub returns : goal.returns
returns c = IfOk-weaker c.arg.result _ _ (λ all added. with_other _ all _ _ _ _ refl added c.in_ok-view_command.ensures c.files_arg.ensures.is c.files_arg.ensures.rule) c.arg.ensures
