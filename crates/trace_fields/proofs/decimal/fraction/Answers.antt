use Rattle.std.proofs.Common.{sym, ◌∙◌, arith, lit≤}
use Rattle.trace_fields.proofs.NumberLemmas.{scaled_is, fraction_six, fraction_seven, fraction_eight}
use Rattle.trace_fields.proofs.decimal.fraction.Goals as goal

pub returns-in-6 : goal.returns-in-6
returns-in-6 c =
    scaled_is c.args.digits.now 1000 c.number.result c.scaled.result c.number.ensures c.scaled.ensures (omega (arith, c.in-6.is)) (lit≤ tt) ∙ sym (fraction_six c.args.digits.now c.in-6.is)

pub returns-in-7 : goal.returns-in-7
returns-in-7 c =
    scaled_is c.args.digits.now 100 c.number-in-7.result c.scaled-in-7.result c.number-in-7.ensures c.scaled-in-7.ensures (omega (arith, c.in-7.is)) (lit≤ tt) ∙ sym (fraction_seven c.args.digits.now c.in-7.is)

pub returns-in-8 : goal.returns-in-8
returns-in-8 c =
    scaled_is c.args.digits.now 10 c.number-in-8.result c.scaled-in-8.result c.number-in-8.ensures c.scaled-in-8.ensures (omega (arith, c.in-8.is)) (lit≤ tt) ∙ sym (fraction_eight c.args.digits.now c.in-8.is)
