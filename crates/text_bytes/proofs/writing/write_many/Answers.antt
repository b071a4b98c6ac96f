use Rattle.std.proofs.Common.{◌≤◌, refl, arith, length}
use Rattle.std.proofs.lemmas.Grind.{common_steps}
use Rattle.text_bytes.proofs.Handing.{on_err}
use Rattle.text_bytes.proofs.Rounds.{hands_round, part_round}
use Rattle.text_bytes.proofs.writing.write_many.Goals as goal

pub returns-in_err-write_round-clause-part : goal.returns-in_err-write_round-clause-part
returns-in_err-write_round-clause-part g c =
    let line = g.L.LineOf.line c.args.lines.now in
    let a = g.W.Write.contents c.args.out.now in
    let b = g.W.Write.contents c.loop-at.out in
    let d = g.W.Write.contents c.write_round.new.out in
    let later : c.loop-at.at ≤ c.min-end.result = grind (arith, common_steps) in
    on_err c.from_residual.result
    (part_round line a b d c.args.items.now _ c.loop-at.at c.min-end.result later refl c.loop-at.invariant.so_far c.in_err-write_round.ensures.part)

pub loop-at-preserved : goal.loop-at-preserved
loop-at-preserved g c =
    let line = g.L.LineOf.line c.args.lines.now in
    let a = g.W.Write.contents c.args.out.now in
    let b = g.W.Write.contents c.loop-at.out in
    let d = g.W.Write.contents c.write_round.new.out in
    let later : c.loop-at.at ≤ c.min-end.result = grind (arith, common_steps) in
    let inside : c.min-end.result ≤ length c.args.items.now = grind (arith, common_steps) in
    record {
      inside = inside;
      so_far = hands_round line a b d c.args.items.now _ c.loop-at.at c.min-end.result later refl c.loop-at.invariant.so_far c.in_ok-write_round.ensures.whole;
    }
