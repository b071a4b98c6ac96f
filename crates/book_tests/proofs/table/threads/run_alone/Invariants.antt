use Rattle.grub_table.specs.Calls.{IsPassOf}
use Rattle.book_tests.proofs.table.threads.run_alone.Given as goal

abbrev pub invariant-loop : goal.invariant-loop
invariant-loop g l = IsPassOf l.shared l.pass
