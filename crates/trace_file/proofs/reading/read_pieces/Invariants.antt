use Rattle.std.proofs.Common.{◌<◌, length}
use Rattle.trace_lines.specs.Keeping.{progress}
use Rattle.trace_file.specs.inside.Taking.{Took}
use Rattle.trace_file.proofs.reading.read_pieces.Given as goal

abbrev pub invariant-loop : goal.invariant-loop
invariant-loop g l = record {
  room : 0 < length l.room;
  took : Took g.N.Fn l.read g.L.Lines.step l.initial.file (progress l.initial.reader (g.L.Lines.seen l.initial.lines)) l.file (progress l.reader (g.L.Lines.seen l.lines));
}
