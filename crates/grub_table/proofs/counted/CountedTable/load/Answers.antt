use mathlib.Core.Option.{none}
use Rattle.atomic_table.specs.Table.{step}
use Rattle.grub_table.specs.declared.view.Access.TheVariants.{Load}
use Rattle.grub_table.specs.inside.Trails.{known}
use Rattle.grub_table.proofs.Counts.{counted}
use Rattle.grub_table.proofs.counted.CountedTable.load.Goals as goal

pub load-requires : goal.load-requires
load-requires g c =
    let s = c.args.self.now.inner.shared in
    let seat = c.args.seat.now in
    (c.requires.0, c.requires.1, counted s.key s.table_id.slots seat.id seat.me c.args.word (λ n. n) (g.P.Play.then (step s.table_id.slots c.args.word 0 0 none) (known seat.me)) (λ _. Load c.args.word) c.requires.2)
