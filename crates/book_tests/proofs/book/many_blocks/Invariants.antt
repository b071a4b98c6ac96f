use Rattle.std.proofs.Common.{◌≡◌}
use Rattle.book_tests.proofs.book.many_blocks.Given as goal

abbrev pub invariant-loop-ticket : goal.invariant-loop-ticket
invariant-loop-ticket g l = l.book.setup ≡ l.initial.book.setup
