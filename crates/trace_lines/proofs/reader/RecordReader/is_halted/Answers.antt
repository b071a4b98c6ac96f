use Rattle.std.proofs.Common.{ap, sym, ◌∙◌, is_some}
use Rattle.trace_lines.specs.Reading.{Progress}
use Rattle.trace_lines.proofs.TextLemmas.{reading_stopped}
use Rattle.trace_lines.proofs.reader.RecordReader.is_halted.Goals as goal

pub returns-clause-rest : goal.returns-clause-rest
returns-clause-rest g c =
    λ stops start text more has. has ∙ reading_stopped g.L.Lines.step text more start (sym (c.is_some.ensures ∙ ap (λ (p : Progress g.L.Lines.Seen). is_some p.halt) has) ∙ stops)
