-- What digits spell.
use Rattle.std.specs.Prelude.{ℕ, List}
use Rattle.std.specs.Str.Parse.{digits_value}

-- the number that these decimal digits spell
abbrev pub value : List ℕ → ℕ
value digits = digits_value 10 digits
