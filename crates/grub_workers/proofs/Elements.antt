-- Elements of lists at which something holds.
use Rattle.std.proofs.Common.{◌≡◌, ◌⊎◌, ℕ, zero, suc, ◌<◌, cond, Bool, true, false, List, [], ◌∷◌, ◌++◌, length, get_or, filter, refl, sym, ap, ◌∙◌, subst, ⊎_elim, inl, inr, arith}
use Rattle.std.specs.List.{flat_map, All, Any}
use Rattle.std.proofs.lemmas.List.Elements.{All-cons, All-nil, All-head, All-tail}

-- `Any`, by recursion on the list
abbrev pub Somewhere : {X : Type 0} → (X → Type 0) → List X → Type 0
Somewhere P [] = ⊥
Somewhere P (x ∷ xs) = P x ⊎ Somewhere P xs

pub any_of : {X : Type 0} (P : X → Type 0) (xs : List X) → Somewhere P xs → Any P xs
any_of P [] a = absurd a
any_of {X} P (x ∷ xs) a = ⊎_elim
    (λ (h : P x). (0, x, omega arith, refl, h))
    (λ (h : Somewhere P xs). let r = any_of P xs h in (suc r.0, r.1, (let low = r.2 in omega arith), r.3, r.4))
    a

pub somewhere_of : {X : Type 0} (P : X → Type 0) (xs : List X) → Any P xs → Somewhere P xs
somewhere_of {X} P xs a = go xs a.0 a.1 a.2 a.3 a.4
  where
    go : (xs : List X) (k : ℕ) (y : X) → k < length xs → get_or xs k y ≡ y → P y → Somewhere P xs
    go [] k y low at h = absurd (omega arith)
    go (x ∷ xs) zero y low at h = inl (subst P (sym at) h)
    go (x ∷ xs) (suc k) y low at h = inr (go xs k y (omega arith) at h)

pub somewhere_right : {X : Type 0} (P : X → Type 0) (xs ys : List X) → Somewhere P ys → Somewhere P (xs ++ ys)
somewhere_right P [] ys a = a
somewhere_right P (x ∷ xs) ys a = inr (somewhere_right P xs ys a)

pub somewhere_left : {X : Type 0} (P : X → Type 0) (xs ys : List X) → Somewhere P xs → Somewhere P (xs ++ ys)
somewhere_left P [] ys a = absurd a
somewhere_left P (x ∷ xs) ys a = ⊎_elim (λ h. inl h) (λ h. inr (somewhere_left P xs ys h)) a

pub somewhere_weaker : {X : Type 0} (P Q : X → Type 0) → ((x : X) → P x → Q x) → (xs : List X) → Somewhere P xs → Somewhere Q xs
somewhere_weaker P Q f [] a = absurd a
somewhere_weaker P Q f (x ∷ xs) a = ⊎_elim (λ h. inl (f x h)) (λ h. inr (somewhere_weaker P Q f xs h)) a

somewhere_split : {X : Type 0} (P : X → Type 0) (xs ys : List X) → Somewhere P (xs ++ ys) → Somewhere P xs ⊎ Somewhere P ys
somewhere_split P [] ys a = inr a
somewhere_split P (x ∷ xs) ys a = ⊎_elim (λ h. inl (inl h)) (λ h. ⊎_elim (λ k. inl (inr k)) (λ k. inr k) (somewhere_split P xs ys h)) a

pub somewhere_flat : {X Y : Type 0} (P : Y → Type 0) (f : X → List Y) (xs : List X) → Somewhere P (flat_map f xs) → Somewhere (λ x. Somewhere P (f x)) xs
somewhere_flat P f [] a = absurd a
somewhere_flat P f (x ∷ xs) a = ⊎_elim (λ h. inl h) (λ h. inr (somewhere_flat P f xs h)) (somewhere_split P (f x) (flat_map f xs) a)

pub somewhere_filter : {X : Type 0} (p : X → Bool) (z : X) (xs : List X) → p z ≡ true → Somewhere (λ x. x ≡ z) xs → Somewhere (λ x. x ≡ z) (filter p xs)
somewhere_filter p z [] on a = absurd a
somewhere_filter {X} p z (x ∷ xs) on a = ⊎_elim
    (λ (is : x ≡ z). let here : p x ≡ true = ap p is ∙ on in subst (λ b. Somewhere (λ x. x ≡ z) (cond b (x ∷ filter p xs) (filter p xs))) (sym here) (inl is))
    (λ h. later (somewhere_filter p z xs on h) (p x))
    a
  where
    later : Somewhere (λ x. x ≡ z) (filter p xs) → (b : Bool) → Somewhere (λ x. x ≡ z) (cond b (x ∷ filter p xs) (filter p xs))
    later h true = inr h
    later h false = h

-- an element at which P holds, and Q as of all elements
pub record Found {X : Type 0} (P Q : X → Type 0) (xs : List X) : Type 0 where
  pub element : X
  pub is : P element
  pub also : Q element
  pub inside : Somewhere (λ x. x ≡ element) xs

pub found : {X : Type 0} (P Q : X → Type 0) (xs : List X) → Somewhere P xs → All Q xs → Found P Q xs
found P Q [] a b = absurd a
found P Q (x ∷ xs) a b = ⊎_elim
    (λ h. record { element = x; is = h; also = All-head Q x xs b; inside = inl refl })
    (λ h. let f = found P Q xs h (All-tail Q x xs b) in record { element = f.element; is = f.is; also = f.also; inside = inr f.inside })
    a

-- what a filter that keeps nothing says of each element
pub filter_none : {X : Type 0} (p : X → Bool) (xs : List X) → filter p xs ≡ [] → All (λ x. p x ≡ false) xs
filter_none p [] is = All-nil (λ x. p x ≡ false)
filter_none {X} p (x ∷ xs) is = go (filter_none p xs) (p x) refl
  where
    go : (filter p xs ≡ [] → All (λ x. p x ≡ false) xs) → (b : Bool) → p x ≡ b → All (λ x. p x ≡ false) (x ∷ xs)
    go more true e = let bad : x ∷ filter p xs ≡ [] = subst (λ c. cond c (x ∷ filter p xs) (filter p xs) ≡ []) e is in absurd (cc)
    go more false e = All-cons (λ x. p x ≡ false) x xs e (more (subst (λ c. cond c (x ∷ filter p xs) (filter p xs) ≡ []) e is))
