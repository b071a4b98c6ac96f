-- The CPUs of a range, one by one.
use Rattle.std.proofs.Common.{◌≡◌, ℕ, ◌+◌, ◌-◌, ◌<◌, ◌≤◌, suc, List, [], ◌∷◌, ◌++◌, append_assoc, refl, arith}
use Rattle.check_settings.specs.Heads.{numbers_from}

numbers_step : (i e : ℕ) → i < e → numbers_from i (e - i) ≡ i ∷ numbers_from (i + 1) (e - (i + 1))
numbers_step i e h = let k : e - i ≡ suc (e - (i + 1)) = omega arith in rw k refl

pub numbers_none : (i e : ℕ) → e ≤ i → numbers_from i (e - i) ≡ []
numbers_none i e h = let k : e - i ≡ 0 = omega arith in rw k refl

-- one CPU more: those so far, and those that are left
pub pushed : (old new : List ℕ) (i e : ℕ) (all : List ℕ) → new ≡ old ++ i ∷ [] → i < e → old ++ numbers_from i (e - i) ≡ all → new ++ numbers_from (i + 1) (e - (i + 1)) ≡ all
pushed old new i e all is below so = rw (is, append_assoc) (rw (numbers_step i e below) at so)
