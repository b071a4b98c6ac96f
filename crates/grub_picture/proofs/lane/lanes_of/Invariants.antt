use Rattle.std.proofs.Common.{◌<◌, ◌≤◌, All, length}
use Rattle.grub_picture.proofs.lane.lanes_of.Given as goal

abbrev pub invariant-loop-t : goal.invariant-loop-t
invariant-loop-t l = record {
  within : All (λ t. t < l.tasks) l.lanes.items;
  most : length l.lanes.items ≤ l.t;
}
