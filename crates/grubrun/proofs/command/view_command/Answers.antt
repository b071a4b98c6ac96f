use Rattle.std.proofs.Common.{refl}
use Rattle.std.proofs.lemmas.Result.{IfOk-weaker}
use Rattle.grubrun.proofs.RoundsLemmas.{with_other}
use Rattle.grubrun.proofs.command.view_command.Goals as goal

pub returns : goal.returns
returns c =
    let one = with_other _ c.in_ok-arg.field-0 _ _ _ _ refl c.in_ok-arg.ensures c.in_ok-run_command.ensures c.view_arg.ensures.is c.view_arg.ensures.rule in
    let two = with_other _ c.in_ok-arg-2.field-0 _ _ _ _ refl c.in_ok-arg-2.ensures one c.from_arg.ensures.is c.from_arg.ensures.rule in
    IfOk-weaker c.arg-3.result _ _ (λ three added. with_other _ three _ _ _ _ refl added two c.to_arg.ensures.is c.to_arg.ensures.rule) c.arg-3.ensures
