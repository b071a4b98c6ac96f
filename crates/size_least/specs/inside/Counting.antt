-- A count that stops above a number.
use Rattle.std.specs.Prelude.{◌≡◌, ℕ, ◌<◌, ◌≤◌}

-- it is the whole where it is at most that
pub record IsUpTo (most count whole : ℕ) : Type 0 where
  pub within : count ≤ most → count ≡ whole
  pub above : most < count → most < whole
