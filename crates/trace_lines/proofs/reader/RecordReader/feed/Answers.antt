use Rattle.std.proofs.Common.{sym, ap, ◌∙◌}
use Rattle.trace_lines.specs.Reading.{Progress, further}
use Rattle.trace_lines.proofs.TextLemmas.{reading_more}
use Rattle.trace_lines.proofs.reader.RecordReader.feed.Goals as goal

pub returns : goal.returns
returns g c =
    λ start text has. c.in_ok-read_piece.ensures ∙ (ap (λ (p : Progress g.L.Lines.Seen). further g.L.Lines.step p c.args.piece.now) has ∙ sym (reading_more g.L.Lines.step text c.args.piece.now start))
