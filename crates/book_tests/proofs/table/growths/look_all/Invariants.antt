use Rattle.std.proofs.Common.{◌≡◌, length}
use Rattle.std.specs.List.{All}
use Rattle.grub_table.specs.Calls.{IsPassOf}
use Rattle.book_tests.proofs.table.growths.look_all.Given as goal

abbrev pub invariant-loop-i : goal.invariant-loop-i
invariant-loop-i g l = All (IsPassOf l.shared) l.passes.items × (length l.passes.items ≡ l.i-end)
