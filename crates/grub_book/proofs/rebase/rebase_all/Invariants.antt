use Rattle.std.proofs.Common.{◌≡◌, ◌++◌, map, take, drop}
use Rattle.grub_book.specs.Rebase.{rebased}
use Rattle.grub_book.proofs.rebase.rebase_all.Given as goal

abbrev pub invariant-loop-held : goal.invariant-loop-held
invariant-loop-held l = l.records ≡ map (rebased l.by) (take l.held-index l.initial.records) ++ drop l.held-index l.initial.records
