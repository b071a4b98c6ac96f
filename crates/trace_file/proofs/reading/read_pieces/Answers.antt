use Rattle.trace_lines.specs.Keeping.{progress}
use Rattle.trace_file.proofs.ReadLemmas.{took_last, took_more}
use Rattle.trace_file.proofs.reading.read_pieces.Goals as goal

pub returns-then-not-branch : goal.returns-then-not-branch
returns-then-not-branch g c =
    let last = c.in_ok-read_piece.ensures.last c.if-not-branch.true in
    let seen = g.L.Lines.seen in
    took_last g.N.Fn c.args.read.now g.L.Lines.step c.args.file.now (progress c.args.reader.now (seen c.args.lines.now)) c.loop.file (progress c.loop.reader (seen c.loop.lines)) last.0 c.read_piece.new.file (progress c.read_piece.new.reader (seen c.read_piece.new.lines)) c.loop.invariant.took last.1 last.2 last.3

pub loop-preserved : goal.loop-preserved
loop-preserved g c =
    let piece = c.in_ok-read_piece.ensures.piece in
    let seen = g.L.Lines.seen in
    record {
      room = rw c.in_ok-read_piece.ensures.room c.loop.invariant.room;
      took = took_more g.N.Fn c.args.read.now g.L.Lines.step c.args.file.now (progress c.args.reader.now (seen c.args.lines.now)) c.loop.file (progress c.loop.reader (seen c.loop.lines)) piece.0 c.read_piece.new.file (progress c.read_piece.new.reader (seen c.read_piece.new.lines)) c.loop.invariant.took piece.1 piece.2;
    }
