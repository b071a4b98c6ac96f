use Rattle.std.proofs.Common.{◌≡◌}
use Rattle.book_tests.proofs.comparison.ask_many.Given as goal

abbrev pub invariant-loop-i : goal.invariant-loop-i
invariant-loop-i g l = record {
  book : l.book.setup ≡ l.setup;
  plain : l.plain.setup ≡ l.setup;
}
