use Rattle.std.specs.List.{flat_map}
use Rattle.std.proofs.Common.{◌++◌}
use Rattle.grub_plan.specs.Texts.{entry_line, head_line, close_line, report_text}
use Rattle.text_bytes.proofs.Handing.{hands_both, part_after, part_longer, on_err}
use Rattle.grub_run.proofs.report.write_report.Goals as goal

pub returns-in_err-write_head-clause-part : goal.returns-in_err-write_head-clause-part
unfolding report_text
returns-in_err-write_head-clause-part g c =
    let entries = flat_map (entry_line c.args.plan.now.names) c.args.queue.report.now.entries.items in
    let a = g.W.Write.contents c.args.out.now in
    let b = g.W.Write.contents c.write_head.new.out in
    let kept = c.args.room.now.buffer.items in
    on_err c.from_residual.result (part_longer a b kept (head_line c.args.queue.r ++ entries) (close_line c.args.queue.closing) (part_longer a b kept (head_line c.args.queue.r) entries c.in_err-write_head.ensures.part))

pub returns-in_err-write_lines-clause-part : goal.returns-in_err-write_lines-clause-part
unfolding report_text
returns-in_err-write_lines-clause-part g c =
    let entries = flat_map (entry_line c.args.plan.now.names) c.args.queue.report.now.entries.items in
    let a = g.W.Write.contents c.args.out.now in
    let b = g.W.Write.contents c.write_head.new.out in
    let d = g.W.Write.contents c.write_lines.new.out in
    let kept = c.args.room.now.buffer.items in
    let left = c.write_head.new.buffer.items in
    on_err c.from_residual-in_err-write_lines.result
    (part_longer a d kept (head_line c.args.queue.r ++ entries) (close_line c.args.queue.closing) (part_after a b d kept (head_line c.args.queue.r) left entries c.in_ok-write_head.ensures.whole (rw c.deref.ensures.value at c.in_err-write_lines.ensures.part)))

pub returns-in_err-write_close-clause-part : goal.returns-in_err-write_close-clause-part
unfolding report_text
returns-in_err-write_close-clause-part g c =
    let entries = flat_map (entry_line c.args.plan.now.names) c.args.queue.report.now.entries.items in
    let a = g.W.Write.contents c.args.out.now in
    let b = g.W.Write.contents c.write_head.new.out in
    let d = g.W.Write.contents c.write_lines.new.out in
    let e = g.W.Write.contents c.write_close.new.out in
    let kept = c.args.room.now.buffer.items in
    let left = c.write_head.new.buffer.items in
    let after = c.write_lines.new.self.buffer.items in
    on_err c.from_residual-in_err-write_close.result
    (part_after a d e kept (head_line c.args.queue.r ++ entries) after (close_line c.args.queue.closing) (hands_both a b d kept (head_line c.args.queue.r) left entries after c.in_ok-write_head.ensures.whole (rw c.deref.ensures.value at c.in_ok-write_lines.ensures.whole)) c.in_err-write_close.ensures.part)

pub returns-clause-whole : goal.returns-clause-whole
unfolding report_text
returns-clause-whole g c =
    let entries = flat_map (entry_line c.args.plan.now.names) c.args.queue.report.now.entries.items in
    let a = g.W.Write.contents c.args.out.now in
    let b = g.W.Write.contents c.write_head.new.out in
    let d = g.W.Write.contents c.write_lines.new.out in
    let e = g.W.Write.contents c.write_close.new.out in
    let kept = c.args.room.now.buffer.items in
    let left = c.write_head.new.buffer.items in
    let after = c.write_lines.new.self.buffer.items in
    hands_both a d e kept (head_line c.args.queue.r ++ entries) after (close_line c.args.queue.closing) c.write_close.new.buffer.items (hands_both a b d kept (head_line c.args.queue.r) left entries after c.in_ok-write_head.ensures.whole (rw c.deref.ensures.value at c.in_ok-write_lines.ensures.whole)) c.in_ok-write_close.ensures.whole
