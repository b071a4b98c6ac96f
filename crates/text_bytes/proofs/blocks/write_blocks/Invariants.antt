use Rattle.std.proofs.Common.{[], take}
use Rattle.std.specs.List.{flat_map}
use Rattle.text_bytes.specs.Writing.{HandsOn}
use Rattle.text_bytes.proofs.blocks.write_blocks.Given as goal

abbrev pub invariant-loop-block : goal.invariant-loop-block
invariant-loop-block g l = HandsOn (g.W.Write.contents l.initial.out) (g.W.Write.contents l.out) [] (flat_map (λ b. b.items) (take l.block-index l.blocks)) []
