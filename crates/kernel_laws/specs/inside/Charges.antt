-- Charges by numbers alone.
use Rattle.std.specs.Prelude.{ℕ, ◌*◌, ◌/◌, ◌^◌}

-- a run of dt at a rate u, scaled by the ratio
abbrev pub kernel_charge : ℕ → ℕ → ℕ → ℕ
kernel_charge dt u ratio = dt * (u * ratio / 2 ^ 8) / 2 ^ 20

-- the same by one exact division
abbrev pub exact_charge : ℕ → ℕ → ℕ → ℕ
exact_charge dt u max = dt * u / max
