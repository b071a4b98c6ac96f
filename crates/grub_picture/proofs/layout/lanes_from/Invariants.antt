use Rattle.std.proofs.Common.{◌≡◌, ◌+◌, ◌*◌, ◌<◌, All, length}
use Rattle.grub_picture.proofs.layout.lanes_from.Given as goal

abbrev pub invariant-loop-t : goal.invariant-loop-t
invariant-loop-t l = record {
  at : l.at ≡ l.y + 16 * l.t-index;
  within : All (λ lane. lane.task < length l.owns) l.lanes.items;
}
