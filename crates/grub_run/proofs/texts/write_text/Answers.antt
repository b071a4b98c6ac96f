use Rattle.text_bytes.proofs.Handing.{on_err}
use Rattle.grub_run.proofs.Known.{handed_part}
use Rattle.grub_run.proofs.texts.write_text.Goals as goal

pub returns-in_err-write_buffer-clause-part : goal.returns-in_err-write_buffer-clause-part
returns-in_err-write_buffer-clause-part g c =
    on_err c.from_residual.result (handed_part (g.W.Write.contents c.args.out.now) (g.W.Write.contents c.write_buffer.new.out) c.args.text.items c.in_err-write_buffer.ensures.part)
