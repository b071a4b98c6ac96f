use Rattle.std.specs.List.{flat_map}
use Rattle.std.proofs.lemmas.Result.{on_ok_weaker, on_err_weaker}
use Rattle.text_bytes.proofs.Handing.{hands_both, part_after, part_longer, on_err}
use Rattle.grub_views.specs.Lines.{close_lines, timeline_lines, told_line}
use Rattle.grub_views.proofs.Viewed.{view_part, view_whole}
use Rattle.grub_views.proofs.lines.write_timeline.Goals as goal

pub returns-in_err-written-clause-part : goal.returns-in_err-written-clause-part
unfolding timeline_lines
returns-in_err-written-clause-part g c =
    let w = c.write_played-written in let names = c.args.plan.now.names in
    view_part (timeline_lines names) _ _ w.ensures.plan _ _ c.close-closing.ensures.time_line _ _ _ c.from_residual.result (on_err c.from_residual.result
    (part_longer (g.W.Write.contents c.args.out.now) (g.W.Write.contents w.new.out) c.args.room.now.buffer.items (flat_map (told_line names) w.new.playing.told) (close_lines 0 c.close-closing.result.items) c.in_err-written.ensures.part))

pub returns-clause-whole : goal.returns-clause-whole
unfolding timeline_lines
returns-clause-whole g c =
    let w = c.write_played-written in let names = c.args.plan.now.names in
    view_whole (timeline_lines names) _ _ w.ensures.plan _ _ c.close-closing.ensures.time_line _ _ _ c.write_closing.result _ (on_ok_weaker c.write_closing.result (λ h.
    hands_both (g.W.Write.contents c.args.out.now) (g.W.Write.contents w.new.out) (g.W.Write.contents c.write_closing.new.out) c.args.room.now.buffer.items (flat_map (told_line names) w.new.playing.told) w.new.room.buffer.items
    (close_lines 0 c.close-closing.result.items) c.write_closing.new.buffer.items c.in_ok-written.ensures.whole (rw c.deref.ensures.value at h)) c.write_closing.ensures.whole)

pub returns-clause-part : goal.returns-clause-part
unfolding timeline_lines
returns-clause-part g c =
    let w = c.write_played-written in let names = c.args.plan.now.names in
    view_part (timeline_lines names) _ _ w.ensures.plan _ _ c.close-closing.ensures.time_line _ _ _ c.write_closing.result (on_err_weaker c.write_closing.result (λ h.
    part_after (g.W.Write.contents c.args.out.now) (g.W.Write.contents w.new.out) (g.W.Write.contents c.write_closing.new.out) c.args.room.now.buffer.items (flat_map (told_line names) w.new.playing.told) w.new.room.buffer.items
    (close_lines 0 c.close-closing.result.items) c.in_ok-written.ensures.whole (rw c.deref.ensures.value at h)) c.write_closing.ensures.part)
