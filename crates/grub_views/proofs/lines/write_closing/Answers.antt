use Rattle.std.proofs.Common.{[], refl, ap}
use Rattle.std.proofs.lemmas.List.{drop_all}
use Rattle.text_bytes.proofs.Handing.{hands_none, hands_both, on_err}
use Rattle.grub_views.specs.Lines.{close_lines}
use Rattle.grub_views.proofs.Closing.{close_left}
use Rattle.grub_views.proofs.Handing.{piece_left, part_piece, hands_end}
use Rattle.grub_views.proofs.lines.write_closing.Goals as goal

pub loop-r-init : goal.loop-r-init
loop-r-init g c = record { room = c.requires; done = []; left = refl; so_far = hands_none (g.W.Write.contents c.args.out.now) c.args.buffer.now.items }

pub returns-in_err-write_close-clause-part : goal.returns-in_err-write_close-clause-part
returns-in_err-write_close-clause-part g c =
    on_err c.from_residual.result
    (part_piece (g.W.Write.contents c.args.out.now) (g.W.Write.contents c.loop-r.out) (g.W.Write.contents c.write_close.new.out) c.args.buffer.now.items c.loop-r.invariant.done c.loop-r.buffer.items _ _ _ _
    c.loop-r.invariant.so_far c.in_err-write_close.ensures.part c.loop-r.invariant.left (close_left c.loop-r.r c.loop-r.r c.args.closing.now _ c.loop-r-test.true))

pub loop-r-preserved : goal.loop-r-preserved
loop-r-preserved g c = record {
  room = c.in_ok-write_close.ensures.room;
  done = _;
  left = piece_left c.loop-r.invariant.done _ _ _ _ c.loop-r.invariant.left (close_left c.loop-r.r c.loop-r.r c.args.closing.now _ c.loop-r-test.true);
  so_far = hands_both (g.W.Write.contents c.args.out.now) (g.W.Write.contents c.loop-r.out) (g.W.Write.contents c.write_close.new.out) c.args.buffer.now.items c.loop-r.invariant.done c.loop-r.buffer.items _ c.write_close.new.buffer.items
      c.loop-r.invariant.so_far c.in_ok-write_close.ensures.whole;
}

pub returns-clause-whole : goal.returns-clause-whole
returns-clause-whole g c =
    hands_end (g.W.Write.contents c.args.out.now) (g.W.Write.contents c.loop-r.out) c.args.buffer.now.items c.loop-r.invariant.done c.loop-r.buffer.items _ _
    c.loop-r.invariant.so_far c.loop-r.invariant.left (ap (close_lines c.loop-r.r) (drop_all c.loop-r.r c.args.closing.now c.loop-r-test.false))
