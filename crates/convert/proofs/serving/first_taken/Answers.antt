use Rattle.std.proofs.Common.{ap, arith, map, subst}
use Rattle.std.proofs.lemmas.Fn.{says_at}
use Rattle.std.proofs.lemmas.List.{take_all}
use Rattle.std.specs.Fn.{FnReturnsAt}
use Rattle.std.specs.Prelude.{false, string_bytes}
use Rattle.convert.specs.Serving.{AreFree}
use Rattle.convert.proofs.ServingLemmas.{all_next}
use Rattle.convert.proofs.serving.first_taken.Goals as goal

pub loop-i-preserved : goal.loop-i-preserved
loop-i-preserved g c =
    let free = subst (λ path. FnReturnsAt g.X.Fn c.args.exists.now path false) c.as_str.ensures.value (says_at g.X.Fn c.exists.ensures c.if-exists.false) in
    all_next (λ path. FnReturnsAt g.X.Fn c.args.exists.now path false) string_bytes c.args.paths.now c.loop-i.i c.index-paths-i.result c.loop-i-test.true c.index-paths-i.is c.loop-i.invariant free

pub returns : goal.returns
returns g c none = subst (AreFree g.X.Fn c.args.exists.now) (ap (map string_bytes) (take_all c.loop-i.i c.args.paths.now (omega (arith, c.loop-i-test.false)))) c.loop-i.invariant
