use Rattle.std.proofs.Common.{◌≤◌, take, vec_capacity}
use Rattle.std.specs.List.{flat_map}
use Rattle.text_bytes.specs.declared.pieces.TheConstants.{LINE_MAX}
use Rattle.text_bytes.specs.Writing.{HandsOn}
use Rattle.text_bytes.proofs.writing.write_few.Given as goal

abbrev pub invariant-loop-item : goal.invariant-loop-item
invariant-loop-item g l = record {
  room : LINE_MAX ≤ vec_capacity l.buffer;
  so_far : HandsOn (g.W.Write.contents l.initial.out) (g.W.Write.contents l.out) l.initial.buffer.items (flat_map (g.L.LineOf.line l.lines) (take l.item-index l.items)) l.buffer.items;
}
