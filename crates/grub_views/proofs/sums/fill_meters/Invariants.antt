use Rattle.std.proofs.Common.{◌≡◌, All, vec_len, vec_capacity}
use Rattle.grub_views.specs.inside.Within.{IsMeterWithin}
use Rattle.grub_views.proofs.sums.fill_meters.Given as goal

abbrev pub invariant-loop-r : goal.invariant-loop-r
invariant-loop-r l = record {
  within : All (IsMeterWithin 0) l.meters.items;
  len : vec_len l.meters ≡ l.r;
  room : vec_capacity l.meters ≡ vec_capacity l.initial.meters;
}
