use Rattle.std.proofs.Common.{◌+◌, ◌*◌, ◌<◌, ◌≤◌, All, length}
use Rattle.grub_picture.proofs.layout.layout_of.Given as goal

abbrev pub invariant-loop-r : goal.invariant-loop-r
invariant-loop-r l = record {
  room : l.y ≤ 76 + 4194 * l.r;
  within : All (λ q. All (λ lane. lane.task < length l.scene.owns.now) q.lanes.items) l.layout.items;
}
