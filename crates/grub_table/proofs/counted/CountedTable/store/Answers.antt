use mathlib.Core.Option.{none}
use Rattle.atomic_table.specs.Table.{step}
use Rattle.grub_table.specs.declared.view.Access.TheVariants.{Store}
use Rattle.grub_table.specs.inside.Trails.{known}
use Rattle.grub_table.proofs.Counts.{counted}
use Rattle.grub_table.proofs.counted.CountedTable.store.Goals as goal

pub store-requires : goal.store-requires
store-requires g c =
    let s = c.args.self.now.inner.shared in
    let seat = c.args.seat.now in
    (c.requires.0, c.requires.1, counted s.key s.table_id.slots seat.id seat.me c.args.word (λ _. c.args.new) (λ _. g.P.Play.then (step s.table_id.slots c.args.word c.args.new 0 none) (known seat.me) c.args.new) (λ _. Store c.args.word) c.requires.2)
