use Rattle.std.proofs.lemmas.Result.{IfOk-weaker}
use Rattle.grubtrace.proofs.AddingLemmas.{adds_more, adds_none, given_is}
use Rattle.grubtrace.proofs.command.with_runqueues.Goals as goal

pub returns : goal.returns
returns c =
    let one = adds_more (adds_none _) c.in_ok-arg.ensures c.cpus_arg.ensures in
    let two = adds_more one c.in_ok-arg-2.ensures (given_is c.args.rt c.requires.rt) in
    IfOk-weaker c.arg-3.result _ _ (λ three added. adds_more two added (given_is c.args.fair_server c.requires.fair_server)) c.arg-3.ensures
