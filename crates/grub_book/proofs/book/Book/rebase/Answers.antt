use Rattle.std.proofs.Common.{◌≡◌, ◌++◌, length, drop, take, arith}
use Rattle.std.proofs.lemmas.Grind.{common_steps}
use Rattle.grub_book.specs.Rebase.{book_rebased}
use Rattle.grub_book.proofs.Rebasing.{totalled_rebased}
use Rattle.grub_book.proofs.book.Book.rebase.Goals as goal

pub invariant_of-self : goal.invariant_of-self
invariant_of-self c =
    let items = c.self.inside.records.items in
    let new = c.rebase_all.new.records in
    let is : take c.self.inside.records.len (new ++ drop (length new) items) ≡ book_rebased c.args.by items = grind (arith, common_steps) in
    rw is (totalled_rebased _ c.args.by _ c.self.invariant)
