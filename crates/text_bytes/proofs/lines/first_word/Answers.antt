use Rattle.std.proofs.Common.{sym, ◌∙◌}
use Rattle.text_bytes.specs.Lines.{is_space}
use Rattle.text_bytes.proofs.Splits.{split_none, split_some}
use Rattle.text_bytes.proofs.lines.first_word.Goals as goal

pub returns-in-None-clause-words : goal.returns-in-None-clause-words
returns-in-None-clause-words c = split_none is_space c.args.text.now (sym c.space_in.ensures ∙ c.in-None.is)

pub returns-in-Some-clause-words : goal.returns-in-Some-clause-words
returns-in-Some-clause-words c = split_some is_space c.args.text.now c.in-Some.i (sym c.space_in.ensures ∙ c.in-Some.is)
