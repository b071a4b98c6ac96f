use Rattle.grub_table.proofs.Counts.{counted_split}
use Rattle.grub_table.proofs.counted.CountedTable.split_seat.Goals as goal

pub split_seat-requires : goal.split_seat-requires
split_seat-requires c = (c.requires.0, c.requires.1, counted_split _ _ _ c.requires.2)
