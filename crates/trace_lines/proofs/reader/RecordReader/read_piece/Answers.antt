use Rattle.std.proofs.Common.{sym, ◌∙◌}
use Rattle.trace_lines.specs.Keeping.{progress}
use Rattle.trace_lines.proofs.TextLemmas.{further_kept, further_line, further_stopped, halted, not_halted}
use Rattle.trace_lines.proofs.reader.RecordReader.read_piece.Goals as goal

pub returns-in_default : goal.returns-in_default
returns-in_default g c =
    rw (c.in_ok-extend_from_slice.ensures.items) (sym (further_kept g.L.Lines.step (progress c.loop-rest.self (g.L.Lines.seen c.loop-rest.lines)) c.loop-rest.rest.now (not_halted c.loop-rest.self.halt c.is_none.result c.is_none.ensures c.loop-rest-test.true) c.in_default.ensures.parts) ∙ c.loop-rest.invariant)

pub loop-rest-preserved : goal.loop-rest-preserved
loop-rest-preserved g c =
    sym (further_line g.L.Lines.step (progress c.loop-rest.self (g.L.Lines.seen c.loop-rest.lines)) (progress c.end_line.new.self (g.L.Lines.seen c.end_line.new.lines)) c.loop-rest.rest.now c.in-Some.line.now c.in-Some.after.now (not_halted c.loop-rest.self.halt c.is_none.result c.is_none.ensures c.loop-rest-test.true) c.in-Some.ensures.parts c.in_ok-end_line.ensures) ∙ c.loop-rest.invariant

pub returns : goal.returns
returns g c =
    sym (further_stopped g.L.Lines.step (progress c.loop-rest.self (g.L.Lines.seen c.loop-rest.lines)) c.loop-rest.rest.now (halted c.loop-rest.self.halt c.is_none.result c.is_none.ensures c.loop-rest-test.false)) ∙ c.loop-rest.invariant
