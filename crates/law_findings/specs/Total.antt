-- The total (sched-deadline.rst 4.1): total_bw of a root domain is the sum of the bandwidths that it admitted, and extra_bw, what
-- they leave of a processor, is not below 0.
use Rattle.std.specs.Prelude.{ℕ, ◌*◌, ◌/◌, ◌%◌, ◌^◌, ◌<◌, ◌==◌, if◌then◌else◌}

-- in units of 2 ^ -20
abbrev pub bandwidth_of : ℕ → ℕ → ℕ
bandwidth_of runtime period = if period == 0 then 0 else ((runtime * 2 ^ 20) % 2 ^ 64) / period

abbrev pub IsNotNegative : ℕ → Type 0
IsNotNegative extra = extra < 2 ^ 63
