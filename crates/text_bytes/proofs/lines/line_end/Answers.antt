use Rattle.text_bytes.proofs.Splits.{first_byte}
use Rattle.text_bytes.proofs.lines.line_end.Goals as goal

pub returns : goal.returns
returns c = first_byte 10 c.args.text.now _ c.memchr.ensures
