use Rattle.grub_book.specs.Rebase.{holds_back}
use Rattle.grub_book.proofs.Rebasing.{NoneBefore}
use Rattle.grub_book.proofs.rebase.first_held.Given as goal

abbrev pub invariant-loop-t : goal.invariant-loop-t
invariant-loop-t l = NoneBefore (holds_back l.by) l.records l.t
