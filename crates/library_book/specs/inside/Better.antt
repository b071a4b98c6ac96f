-- The better of two tasks.
use Rattle.std.specs.Prelude.{ℕ, nat_lt, Option, Some, None, if◌then◌else◌}

-- of the best so far and of task t, which has this moment or none: the earlier, and the old one where they are equal
abbrev pub better_of : Option (ℕ × ℕ) → ℕ → Option ℕ → Option (ℕ × ℕ)
better_of best t None = best
better_of None t (Some m) = Some (t, m)
better_of (Some b) t (Some m) = if nat_lt m b.1 then Some (t, m) else Some b
