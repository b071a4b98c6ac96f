use Rattle.std.proofs.Common.{◌≡◌, ◌≤◌, ◌^◌, ◌*◌, length}
use Rattle.grub_book.specs.Sums.{is_on, is_active_on}
use Rattle.book_tests.proofs.Afresh.{tallied}
use Rattle.book_tests.proofs.plain.tally.Given as goal

abbrev pub invariant-loop-held : goal.invariant-loop-held
invariant-loop-held l = record {
  few : length l.records ≤ 256;
  small : l.this ≤ l.held-index * 2 ^ 20;
  below : l.running ≤ l.this;
  running : l.running ≡ tallied (is_active_on l.r) l.records l.held-index;
  this : l.this ≡ tallied (is_on l.r) l.records l.held-index;
}
