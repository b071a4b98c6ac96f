-- The marks of the time axis.
use Rattle.std.specs.Prelude.{ℕ, ◌+◌, ◌-◌, ◌/◌, max}
use Rattle.svg.specs.declared.frame.Frame.{Frame}

-- by which a step is multiplied for the first multiple in the span or after it
abbrev pub first_multiple : Frame → ℕ → ℕ
first_multiple f step = (f.from + step - 1) / max 1 step

-- how many multiples of a step lie in the span
abbrev pub multiples : Frame → ℕ → ℕ
multiples f step = f.to / max 1 step + 1 - first_multiple f step
