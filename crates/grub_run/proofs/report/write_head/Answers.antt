use Rattle.text_bytes.proofs.Handing.{hands_soon, on_err}
use Rattle.grub_run.proofs.report.write_head.Goals as goal

pub returns-in_err-make_room-clause-part : goal.returns-in_err-make_room-clause-part
returns-in_err-make_room-clause-part g c = on_err c.from_residual.result (hands_soon (g.W.Write.contents c.args.out.now) _ c.args.buffer.now.items _ c.in_err-make_room.ensures.part)
