use Rattle.std.proofs.Common.{sym, ◌∙◌}
use Rattle.trace_lines.specs.NoteWords.{is_comma}
use Rattle.text_bytes.proofs.Splits.{split_none, split_some}
use Rattle.trace_lines.proofs.word.first_part.Goals as goal

pub returns-in-None-clause-parts : goal.returns-in-None-clause-parts
returns-in-None-clause-parts c = split_none is_comma c.args.text.now (sym c.comma_in.ensures ∙ c.in-None.is)

pub returns-in-Some-clause-parts : goal.returns-in-Some-clause-parts
returns-in-Some-clause-parts c = split_some is_comma c.args.text.now c.in-Some.i (sym c.comma_in.ensures ∙ c.in-Some.is)
