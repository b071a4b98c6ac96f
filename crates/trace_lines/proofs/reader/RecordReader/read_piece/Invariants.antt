use Rattle.std.proofs.Common.{◌≡◌, length}
use Rattle.trace_lines.specs.Keeping.{progress}
use Rattle.trace_lines.specs.Reading.{further}
use Rattle.trace_lines.proofs.reader.RecordReader.read_piece.Given as goal

-- what is left of the piece is still to be read
abbrev pub invariant-loop-rest : goal.invariant-loop-rest
invariant-loop-rest g l =
    further g.L.Lines.step (progress l.self (g.L.Lines.seen l.lines)) l.rest ≡ further g.L.Lines.step (progress l.initial.self (g.L.Lines.seen l.initial.lines)) l.piece

abbrev pub decreases-loop-rest : goal.decreases-loop-rest
decreases-loop-rest g l = length l.rest
