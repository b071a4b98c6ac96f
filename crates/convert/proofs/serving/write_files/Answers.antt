use Rattle.std.proofs.Common.{arith, subst, Ok}
use Rattle.std.proofs.lemmas.Fn.{says_at_two}
use Rattle.std.specs.Fn.{FnReturnsAtPair}
use Rattle.std.specs.Prelude.{string_bytes}
use Rattle.convert.proofs.ServingLemmas.{both_next}
use Rattle.convert.proofs.serving.write_files.Goals as goal

pub loop-i-preserved : goal.loop-i-preserved
loop-i-preserved g c =
    let made = subst (λ path. FnReturnsAtPair g.M.Fn c.args.make.now path c.as_slice.result.now (Ok tt)) c.as_str.ensures.value (says_at_two g.M.Fn c.make.ensures c.in-Ok.is) in
    both_next (λ path bytes. FnReturnsAtPair g.M.Fn c.args.make.now path bytes (Ok tt)) string_bytes (λ v. v.items) c.args.paths.now c.args.files.now c.loop-i.i c.index-paths-i.result c.index-files-i.result
    (omega (arith, c.loop-i-test.true, c.requires.same)) c.loop-i-test.true c.index-paths-i.is c.index-files-i.is c.loop-i.invariant
    (subst (λ bytes. FnReturnsAtPair g.M.Fn c.args.make.now (string_bytes c.index-paths-i.result) bytes (Ok tt)) c.as_slice.ensures.value made)
