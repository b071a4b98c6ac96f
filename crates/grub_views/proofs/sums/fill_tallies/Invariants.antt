use Rattle.std.proofs.Common.{◌≡◌, All, vec_len, vec_capacity}
use Rattle.grub_views.specs.inside.Within.{IsWithin}
use Rattle.grub_views.proofs.sums.fill_tallies.Given as goal

abbrev pub invariant-loop-t : goal.invariant-loop-t
invariant-loop-t l = record {
  within : All (IsWithin 0) l.tallies.items;
  len : vec_len l.tallies ≡ l.t;
  room : vec_capacity l.tallies ≡ vec_capacity l.initial.tallies;
}
