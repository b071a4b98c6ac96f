use Rattle.std.proofs.Common.{◌≡◌, All, length}
use Rattle.grub_views.specs.inside.Within.{IsMeterWithin, IsWithin}
use Rattle.grub_views.proofs.sums.count_all.Given as goal

abbrev pub invariant-loop-x : goal.invariant-loop-x
invariant-loop-x l = record {
  setup : l.book.setup ≡ l.initial.book.setup;
  tasks : length l.tallies ≡ length l.initial.tallies;
  queues : length l.meters ≡ length l.initial.meters;
  tallies : All (IsWithin l.x-index) l.tallies;
  meters : All (IsMeterWithin l.x-index) l.meters;
}
