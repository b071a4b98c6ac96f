-- How high needs are on a scale.
use Rattle.std.specs.Prelude.{ℕ, ◌*◌, ◌/◌, min}

-- on one of 150 steps that ends at `top`, and up to so many of these
abbrev pub height_in : ℕ → ℕ → ℕ → ℕ
height_in steps top need = min steps (need * 150 / top)
