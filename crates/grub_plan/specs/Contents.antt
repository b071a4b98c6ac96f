-- The bytes of several texts.
use Rattle.std.specs.Prelude.{ℕ, List, map}
use Rattle.std.specs.Global.{Vec}

abbrev pub contents : List (Vec ℕ) → List (List ℕ)
contents files = map (λ v. v.items) files
