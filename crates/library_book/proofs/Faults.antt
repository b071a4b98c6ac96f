-- The first fault of a list, along a loop.
use Rattle.std.proofs.Common.{◌≡◌, ◌≢◌, inl, inr, ℕ, ◌+◌, ◌<◌, ◌≤◌, ◌==◌, List, length, get_or, drop, cond, sym, ap, subst, ◌∙◌, arith}
use Rattle.std.proofs.lemmas.Bool.{cases_lt, ne_eqb}
use Rattle.std.proofs.lemmas.List.{at_drop_more, at_drop_all, get_or_default}
use Rattle.library_book.specs.Opening.{first_fault}

-- the elements before this place have no fault
abbrev pub NoneBefore : {A : Type 0} → (A → ℕ) → List A → ℕ → Type 0
NoneBefore fault xs i = first_fault fault (drop i xs) ≡ first_fault fault xs

pub none_more : {A : Type 0} (fault : A → ℕ) (xs : List A) (i : ℕ) (d : A) → i < length xs → NoneBefore fault xs i → fault (get_or xs i d) ≡ 0 → NoneBefore fault xs (i + 1)
none_more fault xs i d there was zero =
    let skip = ap (λ n. cond (n == 0) (first_fault fault (drop (i + 1) xs)) n) zero in
    sym (at_drop_more (first_fault fault) xs i d there ∙ skip) ∙ was

pub fault_here : {A : Type 0} (fault : A → ℕ) (xs : List A) (i : ℕ) (d : A) → i < length xs → NoneBefore fault xs i → fault (get_or xs i d) ≢ 0 → fault (get_or xs i d) ≡ first_fault fault xs
fault_here fault xs i d there was ne =
    let stop = ap (λ c. cond c (first_fault fault (drop (i + 1) xs)) (fault (get_or xs i d))) (ne_eqb (fault (get_or xs i d)) 0 ne) in
    sym (at_drop_more (first_fault fault) xs i d there ∙ stop) ∙ was

pub none_at_all : {A : Type 0} (fault : A → ℕ) (xs : List A) (i : ℕ) → length xs ≤ i → NoneBefore fault xs i → 0 ≡ first_fault fault xs
none_at_all fault xs i past was = sym (at_drop_all (first_fault fault) xs i past) ∙ was

-- what holds of each element before this place, and of the one here, holds of each before the next
pub each_more : {A : Type 0} (P : ℕ → A → Type 0) (xs : List A) (i : ℕ) (e : A) → i < length xs → ((k : ℕ) (d : A) → k < i → P k (get_or xs k d)) → P i (get_or xs i e) → (k : ℕ) (d : A) → k < i + 1 → P k (get_or xs k d)
each_more P xs i e there was here k d before =
    elim (cases_lt k i) [
      | inl less ↦ was k d less
      | inr more ↦
          let same : k ≡ i = omega (arith, more, before) in
          subst (λ j. P j (get_or xs j d)) (sym same) (subst (P i) (get_or_default xs i e d there) here)
    ]
