-- Who holds which task, along the marks.
use Rattle.std.proofs.Common.{◌≡◌, ◌≢◌, ◌⊎◌, ℕ, inl, inr, cond, List, [], ◌∷◌, ◌++◌, refl, subst, ap, eq-eqb, ne_eqb, Option, Some, None}
use Rattle.std.proofs.lemmas.List.Sums.{fold_push}
use Rattle.grub_table.specs.declared.view.Mark.{Mark}
use Rattle.grub_table.specs.declared.view.Mark.TheVariants.{Taken, Given}
use Rattle.grub_table.specs.Marks.{holder_after, IsLawfulMark, AreLawful, holder_of}

-- an element of a list with one more is that one, or stands in the list
last_or_before : {A : Type 0} (xs : List A) (x : A) (before after : List A) (y : A) → xs ++ x ∷ [] ≡ before ++ y ∷ after → ((xs ≡ before) × (x ≡ y)) ⊎ ((rest : List A) × (xs ≡ before ++ y ∷ rest))
last_or_before [] x [] after y is = inl (refl, cc)
last_or_before [] x (b ∷ []) after y is = absurd cc
last_or_before [] x (b ∷ c ∷ before) after y is = absurd cc
last_or_before (a ∷ xs) x [] after y is = inr (xs, (let same : a ≡ y = cc in ap (λ z. z ∷ xs) same))
last_or_before (a ∷ xs) x (b ∷ before) after y is =
    let first : a ≡ b = cc in
    let rest : xs ++ x ∷ [] ≡ before ++ y ∷ after = cc in
    elim (last_or_before xs x before after y rest) [
      | inl last ↦ inl ((λ k. first k ∷ last.0 k), last.1)
      | inr more ↦ inr (more.0, (λ k. first k ∷ more.1 k))
    ]

pub lawful_none : (n : ℕ) → AreLawful n []
lawful_none n [] after m is = absurd cc
lawful_none n (b ∷ before) after m is = absurd cc

pub lawful_more : (n : ℕ) (ms : List Mark) (m : Mark) → AreLawful n ms → IsLawfulMark n ms m → AreLawful n (ms ++ m ∷ [])
lawful_more n ms m a b before after k is = elim (last_or_before ms m before after k is) [
  | inl last ↦ subst (λ (p : List Mark × Mark). IsLawfulMark n p.0 p.1) (λ i. (last.0 i, last.1 i)) b
  | inr more ↦ a before more.0 k more.1
]

pub holder_more : (ms : List Mark) (m : Mark) (t : ℕ) → holder_of (ms ++ m ∷ []) t ≡ holder_after t (holder_of ms t) m
holder_more ms m t = fold_push (holder_after t) None ms m

pub taken_here : (t i : ℕ) (holder : Option ℕ) → holder_after t holder (Taken i t) ≡ Some i
taken_here t i holder = ap (λ b. cond b (Some i) holder) (eq-eqb t t refl)

pub taken_else : (t i u : ℕ) (holder : Option ℕ) → t ≢ u → holder_after t holder (Taken i u) ≡ holder
taken_else t i u holder other = ap (λ b. cond b (Some i) holder) (ne_eqb t u other)

pub given_here : (t i : ℕ) (holder : Option ℕ) → holder_after t holder (Given i t) ≡ None
given_here t i holder = ap (λ b. cond b None holder) (eq-eqb t t refl)

pub given_else : (t i u : ℕ) (holder : Option ℕ) → t ≢ u → holder_after t holder (Given i u) ≡ holder
given_else t i u holder other = ap (λ b. cond b None holder) (ne_eqb t u other)
