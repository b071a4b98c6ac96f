use Rattle.std.proofs.Common.{◌==◌}
use mathlib.Core.Option.{some}
use prog.Atomic.{either}
use Rattle.atomic_table.specs.Table.{step}
use Rattle.grub_table.specs.declared.view.Access.TheVariants.{Exchange}
use Rattle.grub_table.specs.inside.Trails.{known}
use Rattle.grub_table.proofs.Counts.{counted}
use Rattle.grub_table.proofs.counted.CountedTable.compare_exchange_with.Goals as goal

pub compare_exchange_with-requires : goal.compare_exchange_with-requires
compare_exchange_with-requires g c =
    let s = c.args.self.now.inner.shared in
    let seat = c.args.seat.now in
    (c.requires.0, c.requires.1, counted s.key s.table_id.slots seat.id seat.me c.args.word (λ n. either (n == c.args.old) c.args.new n) (g.P.Play.then (step s.table_id.slots c.args.word c.args.old c.args.new (some c.args.said.now)) (known seat.me)) (λ n. Exchange c.args.word (n == c.args.old)) c.requires.2)
