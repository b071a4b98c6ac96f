use Rattle.std.proofs.Common.{◌≤◌, ◌-◌, [], take, length}
use Rattle.std.specs.List.{flat_map}
use Rattle.text_bytes.specs.Writing.{HandsOn}
use Rattle.text_bytes.proofs.writing.write_many.Given as goal

abbrev pub invariant-loop-at : goal.invariant-loop-at
invariant-loop-at g l = record {
  inside : l.at ≤ length l.items;
  so_far : HandsOn (g.W.Write.contents l.initial.out) (g.W.Write.contents l.out) [] (flat_map (g.L.LineOf.line l.lines) (take l.at l.items)) [];
}

abbrev pub decreases-loop-at : goal.decreases-loop-at
decreases-loop-at g l = length l.items - l.at
