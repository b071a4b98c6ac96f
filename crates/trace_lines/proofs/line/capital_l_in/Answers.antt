use Rattle.text_bytes.proofs.Splits.{first_byte}
use Rattle.trace_lines.proofs.line.capital_l_in.Goals as goal

pub returns : goal.returns
returns c = first_byte 76 c.args.line.now _ c.memchr.ensures
