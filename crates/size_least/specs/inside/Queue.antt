-- Renewals in a row.
use Rattle.std.specs.Prelude.{ℕ, ◌+◌, ◌-◌, ◌%◌, ◌<◌, ◌≤◌, List, [], ◌∷◌, ◌++◌, Option, None, Some}
use Rattle.size_least.specs.declared.renewal.Renewal.{Renewal}

-- what a renewal that is kept stands for, where the clocks show that
abbrev pub told : ℕ → ℕ → Renewal → Renewal
told later more r = record { finish = (r.finish + later) % 18446744073709551616; left = (r.left + more) % 18446744073709551616 }

abbrev pub first_of : List Renewal → Option Renewal
first_of [] = None
first_of (r ∷ rs) = Some r

abbrev pub after_first : List Renewal → List Renewal
after_first [] = []
after_first (r ∷ rs) = rs

-- the last one, behind another
abbrev pub last_of : Renewal → List Renewal → Renewal
last_of r [] = r
last_of r (s ∷ rs) = last_of s rs

abbrev pub latest_of : List Renewal → ℕ
latest_of [] = 0
latest_of (r ∷ rs) = (last_of r rs).finish

-- the first renewed and at the end
abbrev pub turned : ℕ → ℕ → List Renewal → List Renewal
turned gap runtime [] = []
turned gap runtime (r ∷ rs) = rs ++ record { finish = r.finish + gap; left = r.left + runtime } ∷ []

-- the first can be renewed
abbrev pub HasRoom : ℕ → ℕ → List Renewal → Type 0
HasRoom gap runtime [] = Unit {0}
HasRoom gap runtime (r ∷ rs) = (r.finish + gap < 18446744073709551616) × (r.left + runtime < 18446744073709551616)

-- a renewal is done so much later, with so much of its budget used
abbrev pub passed : ℕ → ℕ → Renewal → Renewal
passed time used r = record { finish = r.finish + time; left = r.left - used }

-- each has so much time and so much of its budget
abbrev pub CanPass : ℕ → ℕ → List Renewal → Type 0
CanPass time used [] = Unit {0}
CanPass time used (r ∷ rs) = (r.finish + time < 18446744073709551616) × (used ≤ r.left) × CanPass time used rs
