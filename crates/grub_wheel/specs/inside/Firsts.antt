-- The first of those armed that meet a condition, and lists of slots said by it.
use Rattle.std.specs.Prelude.{◌≡◌, ℕ, ◌<◌, ◌≤◌, Option, Some, None}

-- nothing armed meets the condition
abbrev pub IsNobody : (ℕ → Type 0) → (ℕ → Type 0) → Type 0
IsNobody A P = (i : ℕ) → A i → P i → ⊥

-- this one is armed, meets the condition, and has the least key of all such
pub record IsFront (A : ℕ → Type 0) (K : ℕ → ℕ) (P : ℕ → Type 0) (at : ℕ) : Type 0 where
  pub armed : A at
  pub meets : P at
  pub least : (i : ℕ) → A i → P i → K at ≤ K i

abbrev pub IsFirst : (ℕ → Type 0) → (ℕ → ℕ) → (ℕ → Type 0) → Option ℕ → Type 0
IsFirst A K P None = IsNobody A P
IsFirst A K P (Some at) = IsFront A K P at

-- behind i in its slot
abbrev pub Behind : (ℕ → ℕ) → (ℕ → ℕ) → ℕ → ℕ → Type 0
Behind K S i j = (S j ≡ S i) × (K i < K j)

-- each slot's head is the first of the slot, and each link leads to the first behind
pub record IsChained (A : ℕ → Type 0) (K S : ℕ → ℕ) (next head : ℕ → Option ℕ) : Type 0 where
  pub heads : (s : ℕ) → s < 256 → IsFirst A K (λ i. S i ≡ s) (head s)
  pub nexts : (i : ℕ) → A i → IsFirst A K (Behind K S i) (next i)

-- the last of a slot before a key
pub record IsBack (A : ℕ → Type 0) (K S : ℕ → ℕ) (s k at : ℕ) : Type 0 where
  pub armed : A at
  pub here : S at ≡ s
  pub below : K at < k
  pub most : (i : ℕ) → A i → S i ≡ s → K i < k → K i ≤ K at

abbrev pub IsLast : (ℕ → Type 0) → (ℕ → ℕ) → (ℕ → ℕ) → ℕ → ℕ → Option ℕ → Type 0
IsLast A K S s k None = IsNobody A (λ i. (S i ≡ s) × (K i < k))
IsLast A K S s k (Some at) = IsBack A K S s k at
