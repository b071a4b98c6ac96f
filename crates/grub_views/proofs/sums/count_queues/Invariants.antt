use Rattle.std.proofs.Common.{◌≡◌, ℕ, ◌+◌, All, take, drop}
use Rattle.grub_views.specs.inside.Within.{IsMeterWithin}
use Rattle.grub_views.proofs.sums.count_queues.Given as goal

abbrev pub invariant-loop-meter : goal.invariant-loop-meter
invariant-loop-meter l = record {
  left : drop l.meter-index l.meters ≡ drop l.meter-index l.initial.meters;
  within : (n : ℕ) → All (IsMeterWithin n) l.initial.meters → All (IsMeterWithin (n + 1)) (take l.meter-index l.meters);
}
