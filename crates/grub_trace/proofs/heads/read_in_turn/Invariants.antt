use Rattle.std.proofs.Common.{◌≡◌, map, take}
use Rattle.grub_trace.specs.inside.Bodies.{AreRead, HaveHeads, head_above}
use Rattle.grub_trace.proofs.heads.read_in_turn.Given as goal

abbrev pub invariant-loop-i : goal.invariant-loop-i
invariant-loop-i l = record {
  heads : map head_above l.bodies ≡ map head_above l.initial.bodies;
  have : HaveHeads l.bodies;
  read : AreRead l.tasks (take l.i l.bodies);
}
