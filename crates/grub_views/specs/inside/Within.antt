-- How great the numbers are that are counted over so many steps.
use Rattle.std.specs.Prelude.{ℕ, ◌*◌, ◌≤◌}
use Rattle.grub_views.specs.declared.tally.Tally.{Tally}
use Rattle.grub_views.specs.declared.usage.Meter.{Meter}

-- the numbers of so many steps
pub record IsWithin (n : ℕ) (y : Tally) : Type 0 where
  pub executed : y.executed ≤ 18446744073709551616 * n
  pub charged : y.charged ≤ 18446744073709551616 * n
  pub recharges : y.recharges ≤ 18446744073709551616 * n
  pub joins : y.joins ≤ n
  pub wakes : y.wakes ≤ n
  pub kept : y.kept ≤ n
  pub moves : y.moves ≤ n
  pub waits : y.waits ≤ n
  pub sleeps : y.sleeps ≤ n
  pub retired : y.retired ≤ n
  pub late : y.late ≤ n
  pub refused : y.refused ≤ n

-- the usage of so many steps
pub record IsMeterWithin (n : ℕ) (y : Meter) : Type 0 where
  pub changes : y.usage.changes ≤ n
  pub running : y.usage.running ≤ 18446744073709551616 * n
  pub this : y.usage.this ≤ 18446744073709551616 * n
