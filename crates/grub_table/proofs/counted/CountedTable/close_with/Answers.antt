use Rattle.grub_table.proofs.Counts.{counted_end}
use Rattle.grub_table.proofs.counted.CountedTable.close_with.Goals as goal

pub returns-clause-values : goal.returns-clause-values
returns-clause-values c = let v = c.close_with.ensures.values in (v.0, v.1, counted_end _ _ _ _ _ v.2)
