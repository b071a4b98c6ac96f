use Rattle.std.proofs.Common.{refl}
use Rattle.trace_lines.specs.Keeping.{progress}
use Rattle.trace_file.proofs.ReadLemmas.{comes_to, has_none}
use Rattle.trace_file.proofs.reading.read_opened.Goals as goal

pub returns : goal.returns
returns g c =
    let new = c.new-reader.ensures in
    let seen = g.L.Lines.seen in
    rw c.«end».ensures (comes_to g.N.Fn c.args.read.now g.L.Lines.step c.args.file.now (seen c.args.lines.now) (progress c.new-reader.result (seen c.args.lines.now)) (progress c.read_pieces.new.reader (seen c.read_pieces.new.lines)) (has_none g.L.Lines.step (seen c.args.lines.now) c.new-reader.result new.carry new.line new.clock new.halt) c.in_ok-read_pieces.ensures)
