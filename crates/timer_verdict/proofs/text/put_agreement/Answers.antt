use Rattle.std.proofs.lemmas.Result.{on_ok_weaker}
use Rattle.timer_verdict.proofs.text.put_agreement.Goals as goal

pub returns : goal.returns
returns c = on_ok_weaker c.put.result (λ is. record { before = c.args.out.now.items; is = is }) c.put.ensures
