use Rattle.std.proofs.Common.{◌≡◌}
use Rattle.book_tests.proofs.book.go.Given as goal

abbrev pub invariant-loop-step : goal.invariant-loop-step
invariant-loop-step g l = l.book.setup ≡ l.setup
