use Rattle.std.proofs.Common.{sym, ◌∙◌}
use Rattle.text_bytes.specs.Lines.{is_end}
use Rattle.text_bytes.proofs.Splits.{split_none, split_some}
use Rattle.text_bytes.proofs.lines.first_line.Goals as goal

pub returns-in-None-clause-parts : goal.returns-in-None-clause-parts
returns-in-None-clause-parts c = split_none is_end c.args.text.now (sym c.line_end.ensures ∙ c.in-None.is)

pub returns-in-Some-clause-parts : goal.returns-in-Some-clause-parts
returns-in-Some-clause-parts c = split_some is_end c.args.text.now c.in-Some.end (sym c.line_end.ensures ∙ c.in-Some.is)
