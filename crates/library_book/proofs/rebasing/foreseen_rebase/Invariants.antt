use Rattle.grub_book.specs.Rebase.{holds_back}
use Rattle.grub_book.proofs.Rebasing.{NoneBefore}
use Rattle.library_book.specs.Memory.{records_of}
use Rattle.library_book.proofs.rebasing.foreseen_rebase.Given as goal

abbrev pub invariant-loop-t : goal.invariant-loop-t
invariant-loop-t l = NoneBefore (holds_back l.by) (records_of l.tasks) l.t
