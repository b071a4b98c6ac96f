use Rattle.std.proofs.Common.{◌∙◌, arith}
use Rattle.trace_probes.proofs.WordLemmas.{digit_more}
use Rattle.trace_probes.proofs.front.front_digits.Goals as goal

pub loop-rest-preserved : goal.loop-rest-preserved
loop-rest-preserved c =
    let more = digit_more c.loop-rest.value c.digit-digit.result c.loop-rest.rest.now (omega (arith, c.in-len1-up.len_at_least)) c.digit-digit.ensures (omega (arith, c.if-digit-ge10.false)) (omega (arith, c.if-value-ge-FEW.false)) in
    (c.loop-rest.invariant.0 ∙ more.0, c.loop-rest.invariant.1 ∙ more.1)
