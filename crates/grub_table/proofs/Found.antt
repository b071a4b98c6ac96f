-- What it takes to find the one value that has a word.
use Rattle.std.proofs.Common.{◌≡◌, ◌≢◌, ◌↔◌, ℕ, Option, Some, None, IsNone, refl, subst}

module _ {V : Type 0} (Fits : V → Type 0) (word_of : V → ℕ) (word : ℕ) where
  -- what is found is a value that fits and has the word, and there is no other
  pub found_some : (v : V) → Fits v → word_of v ≡ word → ((u : V) → Fits u → word_of u ≡ word → u ≡ v) → (u : V) → (Some v ≡ Some u) ↔ (Fits u × (word_of u ≡ word))
  found_some v fits is only u = (
    λ e. let same : v ≡ u = cc in (subst Fits same fits, subst (λ x. word_of x ≡ word) same is),
    λ (f, e). let same : u ≡ v = only u f e in cc,
  )

  -- no value that fits has the word
  pub found_none : ((u : V) → Fits u → word_of u ≢ word) → (u : V) → (None ≡ Some u) ↔ (Fits u × (word_of u ≡ word))
  found_none never u = (λ e. absurd cc, λ (f, e). absurd (never u f e))

  -- where each value is found exactly where it fits and has the word, nothing is found exactly where none does
  pub none_from_found : (o : Option V) → ((u : V) → (o ≡ Some u) ↔ (Fits u × (word_of u ≡ word))) → IsNone o ↔ ((u : V) → Fits u → word_of u ≢ word)
  none_from_found None found = (λ _ u f e. let h : None ≡ Some u = (found u).1 (f, e) in absurd cc, λ _. refl)
  none_from_found (Some v) found = (λ e. absurd cc, λ never. absurd (never v ((found v).0 refl).0 ((found v).0 refl).1))
