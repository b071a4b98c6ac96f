use Rattle.std.proofs.Common.{◌∙◌, Err}
use Rattle.std.specs.List.{flat_map}
use Rattle.std.proofs.lemmas.Result.{on_err_weaker, on_ok_weaker}
use Rattle.text_bytes.proofs.Handing.{hands_both, part_after, part_longer}
use Rattle.grub_timeline.specs.Replay.{steps_of}
use Rattle.grub_views.specs.Rows.{header, rows_of, step_row, step_rows}
use Rattle.grub_views.proofs.Viewed.{view_part, view_whole}
use Rattle.grub_views.proofs.rows.write_steps.Goals as goal

pub returns-in-Err-clause-part : goal.returns-in-Err-clause-part
unfolding step_rows
returns-in-Err-clause-part g c =
    let end = c.play_out in
    view_part (rows_of c.args.plan.now) _ _ (end.ensures.plan ∙ c.requires.plan) _ _ c.close.ensures.time_line _ _ _ {T = Unit {0}} (Err c.in-Err.fault)
    (part_longer (g.W.Write.contents c.args.out.now) (g.W.Write.contents c.write_header.new.out) c.args.room.now.buffer.items header
    (flat_map (step_row c.args.plan.now.names) (steps_of c.args.plan.now.setup end.new.playing.told)) c.in-Err.ensures.part)

pub returns-clause-whole : goal.returns-clause-whole
unfolding step_rows
returns-clause-whole g c =
    let w = c.write_rows-written in let rows = flat_map (step_row c.args.plan.now.names) (steps_of c.args.plan.now.setup w.new.playing.told) in
    view_whole (rows_of c.args.plan.now) _ _ w.ensures.plan _ _ c.close-2.ensures.time_line _ _ _ w.result _ (on_ok_weaker w.result
    (hands_both (g.W.Write.contents c.args.out.now) (g.W.Write.contents c.write_header.new.out) (g.W.Write.contents w.new.out) c.args.room.now.buffer.items header c.write_header.new.buffer.items rows w.new.room.buffer.items c.in_default.ensures.whole) w.ensures.whole)

pub returns-clause-part : goal.returns-clause-part
unfolding step_rows
returns-clause-part g c =
    let w = c.write_rows-written in let rows = flat_map (step_row c.args.plan.now.names) (steps_of c.args.plan.now.setup w.new.playing.told) in
    view_part (rows_of c.args.plan.now) _ _ w.ensures.plan _ _ c.close-2.ensures.time_line _ _ _ w.result (on_err_weaker w.result
    (part_after (g.W.Write.contents c.args.out.now) (g.W.Write.contents c.write_header.new.out) (g.W.Write.contents w.new.out) c.args.room.now.buffer.items header c.write_header.new.buffer.items rows c.in_default.ensures.whole) w.ensures.part)
