-- What a text gains.
use Rattle.std.specs.Prelude.{◌≡◌, ℕ, List, ◌++◌, codes}

-- what stood in a text stands at its beginning still
pub record Extends (old new : List ℕ) : Type 0 where
  pub rest : List ℕ
  pub is : new ≡ old ++ rest

-- that each value agrees
abbrev pub agreement_text : List ℕ
agreement_text = codes "agrees, bit for bit\n"

-- that a value differs, or a law is broken
abbrev pub difference_text : List ℕ
difference_text = codes "differs: "
