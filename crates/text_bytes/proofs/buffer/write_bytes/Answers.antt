use Rattle.std.proofs.lemmas.List.{take_rest}
use Rattle.std.proofs.Common.{rules}
use Rattle.text_bytes.proofs.Handing.{appends_more, on_err, part_nothing, part_kept}
use Rattle.text_bytes.proofs.buffer.write_bytes.Goals as goal

pub returns-then-count-eq0-clause-part : goal.returns-then-count-eq0-clause-part
returns-then-count-eq0-clause-part g c = part_nothing _ _ _ c.args.bytes.now _ c.loop-at.at c.in_ok-count.count c.loop-at.invariant.1 c.if-count-eq0.true c.in_ok-count.ensures.bytes

pub loop-at-preserved : goal.loop-at-preserved
loop-at-preserved g c =
    let text = c.args.bytes.now in
    let written = rw (take_rest text c.loop-at.at) at c.in_ok-count.ensures.bytes in
    (search rules, appends_more _ _ _ text c.loop-at.at c.in_ok-count.count c.loop-at.invariant.1 written)

pub returns-in_err-count-clause-part : goal.returns-in_err-count-clause-part
returns-in_err-count-clause-part g c = on_err _ (part_kept _ _ _ c.args.bytes.now c.loop-at.at c.loop-at.invariant.1 c.in_err-count.ensures.bytes)
