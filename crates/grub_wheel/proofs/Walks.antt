-- The walk along a slot, to the last before a key.
use Rattle.std.proofs.Common.{◌≡◌, ℕ, ◌+◌, ◌-◌, ◌<◌, Option, Some, None, ◌∙◌, arith}
use Rattle.grub_wheel.specs.inside.Firsts.{IsFirst, Behind, IsChained}

-- the walk has passed this node, and stands before another
pub record IsPassed (A : ℕ → Type 0) (K S : ℕ → ℕ) (s k before : ℕ) (at : Option ℕ) : Type 0 where
  pub armed : A before
  pub here : S before ≡ s
  pub below : K before < k
  pub ahead : IsFirst A K (Behind K S before) at

abbrev pub IsReached : (ℕ → Type 0) → (ℕ → ℕ) → (ℕ → ℕ) → ℕ → ℕ → Option ℕ → Option ℕ → Type 0
IsReached A K S s k None at = IsFirst A K (λ i. S i ≡ s) at
IsReached A K S s k (Some before) at = IsPassed A K S s k before at

-- how far the walk has to go at most
abbrev pub way_left : (ℕ → ℕ) → ℕ → Option ℕ → ℕ
way_left K k None = 0
way_left K k (Some i) = (k - K i) + 1

pub record IsOn (A : ℕ → Type 0) (S : ℕ → ℕ) (s at : ℕ) : Type 0 where
  pub armed : A at
  pub here : S at ≡ s

module _ (A : ℕ → Type 0) (K S : ℕ → ℕ) (next head : ℕ → Option ℕ) (s k : ℕ) where
  pub stands_on : (before : Option ℕ) (i : ℕ) → IsReached A K S s k before (Some i) → IsOn A S s i
  stands_on None i r = record { armed = r.armed; here = r.meets }
  stands_on (Some b) i r = let f = r.ahead in record { armed = f.armed; here = f.meets.0 ∙ r.here }

  pub steps_on : (before : Option ℕ) (i : ℕ) → IsChained A K S next head → IsReached A K S s k before (Some i) → K i < k → IsReached A K S s k (Some i) (next i)
  steps_on before i ch r lt =
      let o = stands_on before i r in
      record { armed = o.armed; here = o.here; below = lt; ahead = ch.nexts i o.armed }

  pub goes_on : (i : ℕ) → IsChained A K S next head → A i → K i < k → way_left K k (next i) < way_left K k (Some i)
  goes_on i ch a lt = go (next i) (ch.nexts i a)
    where
      go : (o : Option ℕ) → IsFirst A K (Behind K S i) o → way_left K k o < (k - K i) + 1
      go None n = omega arith
      go (Some j) f = let l = f.meets.1 in omega arith
