use Rattle.std.proofs.Common.{rules, sym, subst}
use Rattle.grub_book.specs.Machine.{Machine}
use Rattle.grub_timeline.specs.inside.Playing.{IsKnown}
use Rattle.grub_timeline.proofs.Entries.{known_call}
use Rattle.grub_timeline.proofs.player.put.Goals as goal

pub returns-clause-told : goal.returns-clause-told
returns-clause-told c =
    let a = c.args in
    subst (λ (s : Machine). IsKnown s c.apply-reply.new.self.records c.and-player.result.items) (sym c.apply-reply.ensures.setup)
    (known_call a.player.now.book.setup a.player.now.book.records c.apply-reply.new.self.records a.player.now.told.items c.and-player.result.items a.r a.m a.t a.op c.apply-reply.result c.requires.told c.requires.queue c.requires.task c.requires.op (search rules) (search rules))
