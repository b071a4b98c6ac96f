use Rattle.std.proofs.Common.{◌≡◌, take}
use Rattle.grub_book.specs.History.{IsLegal, book_of}
use Rattle.grub_book.proofs.checker.replay.Given as goal

abbrev pub invariant-loop-i : goal.invariant-loop-i
invariant-loop-i l = record {
  setup : l.book.setup ≡ l.setup;
  legal : IsLegal l.setup (take l.i l.events);
  book : l.book.records ≡ book_of l.setup (take l.i l.events);
}
