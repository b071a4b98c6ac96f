-- Heights that grow step by step.
use Rattle.std.specs.Prelude.{ℕ, ◌+◌, min, nat_lt, List, [], ◌∷◌, if◌then◌else◌}

-- a step more where more than so much is needed
abbrev pub flag : ℕ → ℕ → ℕ
flag below need = if nat_lt below need then 1 else 0

-- number by number
abbrev pub summed : List ℕ → List ℕ → List ℕ
summed [] more = []
summed (h ∷ heights) [] = []
summed (h ∷ heights) (m ∷ more) = min (h + m) 4294967295 ∷ summed heights more
