use Rattle.std.proofs.Common.{refl}
use Rattle.std.proofs.lemmas.Result.{on_ok_weaker, on_err_weaker}
use Rattle.text_bytes.proofs.Handing.{on_err}
use Rattle.grub_views.specs.Lines.{timeline_lines}
use Rattle.grub_run.specs.declared.view.FileView.TheVariants.{Timeline}
use Rattle.grub_run.proofs.Handed.{line_begun, line_drained, line_drained_part}
use Rattle.grub_run.proofs.view.lines_through.Goals as goal

pub returns-in_err-write_timeline-clause-part : goal.returns-in_err-write_timeline-clause-part
returns-in_err-write_timeline-clause-part g c =
    on_err c.from_residual.result (line_begun Timeline c.args.plan.now (timeline_lines c.args.plan.now.names) (λ told closing. refl) (g.W.Write.contents c.args.out.now) (g.W.Write.contents c.write_timeline.new.out) (rw c.args.ready.empty at c.in_err-write_timeline.ensures.part))

pub returns-clause-part : goal.returns-clause-part
returns-clause-part g c =
    on_err_weaker c.write_text.result (line_drained_part Timeline c.args.plan.now (timeline_lines c.args.plan.now.names) (λ told closing. refl) (g.W.Write.contents c.args.out.now) (g.W.Write.contents c.write_timeline.new.out) (g.W.Write.contents c.write_text.new.out) c.write_timeline.new.room.buffer.items
    (rw c.args.ready.empty at c.in_ok-write_timeline.ensures.whole)) c.write_text.ensures.part

pub returns-clause-whole : goal.returns-clause-whole
returns-clause-whole g c =
    on_ok_weaker c.write_text.result (line_drained Timeline c.args.plan.now (timeline_lines c.args.plan.now.names) (λ told closing. refl) (g.W.Write.contents c.args.out.now) (g.W.Write.contents c.write_timeline.new.out) (g.W.Write.contents c.write_text.new.out) c.write_timeline.new.room.buffer.items
    (rw c.args.ready.empty at c.in_ok-write_timeline.ensures.whole)) c.write_text.ensures.whole
