use Rattle.std.proofs.Common.{[]}
use Rattle.std.proofs.lemmas.Result.{on_err_weaker}
use Rattle.std.specs.List.{flat_map}
use Rattle.text_bytes.proofs.Handing.{hands_soon, part_after, on_err}
use Rattle.text_bytes.proofs.writing.write_lines.Goals as goal

pub returns-in_err-write_buffer-clause-part : goal.returns-in_err-write_buffer-clause-part
returns-in_err-write_buffer-clause-part g c =
    on_err c.from_residual.result
    (hands_soon (g.W.Write.contents c.args.out.now) (g.W.Write.contents c.write_buffer.new.out) c.args.buffer.now.items (flat_map (g.L.LineOf.line c.args.lines.now) c.args.items.now) c.in_err-write_buffer.ensures.part)

pub returns-in_ok-write_buffer-clause-part : goal.returns-in_ok-write_buffer-clause-part
returns-in_ok-write_buffer-clause-part g c =
    let text = flat_map (g.L.LineOf.line c.args.lines.now) c.args.items.now in
    let a = g.W.Write.contents c.args.out.now in
    let b = g.W.Write.contents c.write_buffer.new.out in
    let d = g.W.Write.contents c.write_many.new.out in
    on_err_weaker c.write_many.result (λ h. part_after a b d c.args.buffer.now.items [] [] text c.in_ok-write_buffer.ensures.whole h) c.write_many.ensures.part
