use Rattle.grub_table.proofs.Counts.{counted_join}
use Rattle.grub_table.proofs.counted.CountedTable.join_seat.Goals as goal

pub join_seat-requires : goal.join_seat-requires
join_seat-requires c = (c.requires.0, c.requires.1, c.requires.2, c.requires.3, counted_join _ _ _ _ _ c.requires.4)
