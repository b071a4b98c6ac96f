use Rattle.std.proofs.Common.{◌≡◌, ◌+◌, ◌*◌, ◌≤◌, ◌++◌, vec_len, vec_capacity, take}
use Rattle.std.specs.List.{flat_map}
use Rattle.text_bytes.specs.declared.pieces.TheConstants.{LINE_MAX}
use Rattle.text_bytes.proofs.block.append_lines.Given as goal

abbrev pub invariant-loop-item : goal.invariant-loop-item
invariant-loop-item g l = record {
  text : l.block.items ≡ l.initial.block.items ++ flat_map (g.L.LineOf.line l.lines) (take l.item-index l.items);
  len : vec_len l.block ≤ vec_len l.initial.block + l.item-index * LINE_MAX;
  room : vec_capacity l.initial.block ≤ vec_capacity l.block;
}
