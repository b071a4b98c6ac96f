use Rattle.text_bytes.proofs.Handing.{hands_put, hands_soon, on_err}
use Rattle.grub_views.specs.Rows.{header}
use Rattle.grub_views.proofs.rows.write_header.Goals as goal

pub returns-in_err-make_room-clause-part : goal.returns-in_err-make_room-clause-part
returns-in_err-make_room-clause-part g c = on_err c.from_residual.result (hands_soon (g.W.Write.contents c.args.out.now) _ c.args.buffer.now.items _ c.in_err-make_room.ensures.part)

pub returns-clause-whole : goal.returns-clause-whole
returns-clause-whole g c =
    hands_put (g.W.Write.contents c.args.out.now) (g.W.Write.contents c.make_room.new.out) c.args.buffer.now.items c.make_room.new.buffer.items header c.append.new.out.items
    c.in_ok-make_room.ensures.whole c.append.ensures.text
