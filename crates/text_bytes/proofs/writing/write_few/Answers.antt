use Rattle.std.proofs.Common.{◌≡◌, rules, arith, get_or, subst, sym}
use Rattle.text_bytes.specs.Writing.{HandsOn}
use Rattle.text_bytes.proofs.Handing.{hands_entries, hands_put, hands_soon, part_entries, on_err}
use Rattle.text_bytes.proofs.writing.write_few.Goals as goal

pub returns-in_err-make_room-clause-part : goal.returns-in_err-make_room-clause-part
returns-in_err-make_room-clause-part g c =
    let line = g.L.LineOf.line c.args.lines.now in
    let x = c.item-item.result in
    let i = c.loop-item.item-index in
    let a = g.W.Write.contents c.args.out.now in
    let b = g.W.Write.contents c.loop-item.out in
    let d = g.W.Write.contents c.make_room.new.out in
    on_err c.from_residual.result
    (part_entries line a b d c.args.buffer.now.items c.loop-item.buffer.items c.args.items.now i x c.loop-item-test.true c.loop-item.invariant.so_far
    (hands_soon b d c.loop-item.buffer.items (line (get_or c.args.items.now i x)) c.in_err-make_room.ensures.part))

pub loop-item-preserved : goal.loop-item-preserved
loop-item-preserved g c =
    let line = g.L.LineOf.line c.args.lines.now in
    let x = c.item-item.result in
    let i = c.loop-item.item-index in
    let there : get_or c.args.items.now i x ≡ x = search rules in
    let a = g.W.Write.contents c.args.out.now in
    let b = g.W.Write.contents c.loop-item.out in
    let d = g.W.Write.contents c.make_room.new.out in
    let left = c.loop-item.buffer.items in
    let rest = c.append.new.out.items in
    record {
      room = omega (c.in_ok-make_room.ensures.room, c.append.ensures.room, arith);
      so_far = hands_entries line a b d c.args.buffer.now.items left rest c.args.items.now i x c.loop-item-test.true c.loop-item.invariant.so_far
          (subst (λ y. HandsOn b d left (line y) rest) (sym there)
          (hands_put b d left c.make_room.new.buffer.items (line x) rest c.in_ok-make_room.ensures.whole c.append.ensures.text));
    }
