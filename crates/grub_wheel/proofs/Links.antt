-- A node put into the list of its slot, and one taken out.
use Rattle.std.proofs.Common.{◌≡◌, ◌≢◌, ℕ, ◌<◌, ◌≤◌, ◌⊎◌, inl, inr, Option, Some, None, refl, ap, ◌∙◌, sym, arith, subst}
use Rattle.grub_wheel.specs.inside.Firsts.{IsFront, IsFirst, Behind, IsChained, IsBack, IsLast}
use Rattle.std.proofs.lemmas.Bool.{cases_lt, cases_eq}

-- armed before and after, with the same key and slot
pub record IsSame (A A' : ℕ → Type 0) (K K' S S' : ℕ → ℕ) (j : ℕ) : Type 0 where
  pub old : A j
  pub new : A' j
  pub key : K' j ≡ K j
  pub slot : S' j ≡ S j

-- the links once i stands behind `before` in slot s
abbrev pub IsLinkedIn : (ℕ → Option ℕ) → (ℕ → Option ℕ) → (ℕ → Option ℕ) → (ℕ → Option ℕ) → ℕ → ℕ → Option ℕ → Type 0
IsLinkedIn next next' head head' s i None = (next' i ≡ head s) × (head' s ≡ Some i) × ((j : ℕ) → j ≢ i → next' j ≡ next j)
IsLinkedIn next next' head head' s i (Some b) = (next' i ≡ next b) × (next' b ≡ Some i) × (head' s ≡ head s) × ((j : ℕ) → j ≢ i → j ≢ b → next' j ≡ next j)

-- the links once i, which stood behind `before` in slot s, is passed over
abbrev pub IsPassedOver : (ℕ → Option ℕ) → (ℕ → Option ℕ) → (ℕ → Option ℕ) → (ℕ → Option ℕ) → ℕ → ℕ → Option ℕ → Type 0
IsPassedOver next next' head head' s i None = (head' s ≡ next i) × ((j : ℕ) → j ≢ i → next' j ≡ next j)
IsPassedOver next next' head head' s i (Some b) = (next' b ≡ next i) × (head' s ≡ head s) × ((j : ℕ) → j ≢ i → j ≢ b → next' j ≡ next j)

pub record IsAdded (A A' : ℕ → Type 0) (K K' S S' : ℕ → ℕ) (next next' head head' : ℕ → Option ℕ) (s : ℕ) (before : Option ℕ) (i : ℕ) : Type 0 where
  pub fresh : A i → ⊥
  pub here : A' i
  pub place : S' i ≡ s
  pub kept : (j : ℕ) → A j → IsSame A A' K K' S S' j
  pub old : (j : ℕ) → A' j → j ≢ i → IsSame A A' K K' S S' j
  pub linked : IsLinkedIn next next' head head' s i before
  pub others : (r : ℕ) → r ≢ s → head' r ≡ head r

pub record IsTaken (A A' : ℕ → Type 0) (K K' S S' : ℕ → ℕ) (next next' head head' : ℕ → Option ℕ) (s : ℕ) (before : Option ℕ) (i : ℕ) : Type 0 where
  pub gone : A' i → ⊥
  pub was : A i
  pub place : S i ≡ s
  pub kept : (j : ℕ) → A j → j ≢ i → IsSame A A' K K' S S' j
  pub old : (j : ℕ) → A' j → IsSame A A' K K' S S' j
  pub linked : IsPassedOver next next' head head' s i before
  pub others : (r : ℕ) → r ≢ s → head' r ≡ head r

module _ (A A' : ℕ → Type 0) (K K' S S' : ℕ → ℕ) where
  abbrev Both : ℕ → Type 0
  Both j = IsSame A A' K K' S S' j

  -- the first stays the first, where those that meet the condition stay the same
  pub first_as : (P P' : ℕ → Type 0) (at : Option ℕ) → IsFirst A K P at
      → ((j : ℕ) → A' j → P' j → Both j × P j)
      → ((h : ℕ) → at ≡ Some h → IsFront A K P h → Both h × P' h)
      → IsFirst A' K' P' at
  first_as P P' None n from to = λ j a p. let b = from j a p in n j b.0.old b.1
  first_as P P' (Some h) f from to =
      let t = to h refl f in
      record {
        armed = t.0.new;
        meets = t.1;
        least = λ j a p. let b = from j a p in let l = f.least j b.0.old b.1 in let e = b.0.key in let g = t.0.key in omega arith;
      }

  -- the same, where others that meet it have no lower keys
  pub front_as : (P P' : ℕ → Type 0) (h : ℕ) → IsFront A K P h
      → ((j : ℕ) → A' j → P' j → (Both j × P j) ⊎ (K' h ≤ K' j))
      → Both h → P' h
      → IsFront A' K' P' h
  front_as P P' h f from b p = record { armed = b.new; meets = p; least = λ j a q. least j (from j a q) }
    where
      least : (j : ℕ) → (Both j × P j) ⊎ (K' h ≤ K' j) → K' h ≤ K' j
      least j (inl c) = let l = f.least j c.0.old c.1 in let e = c.0.key in let g = b.key in omega arith
      least j (inr c) = c

  -- what is behind j among the same nodes
  pub behind_as : (j x : ℕ) → Both j → Both x → Behind K' S' j x → Behind K S j x
  behind_as j x c d p = let u = c.key in let v = d.key in let l = p.1 in let lt : K j < K x = omega arith in (sym d.slot ∙ p.0 ∙ c.slot, lt)

  pub behind_to : (j x : ℕ) → Both j → Both x → Behind K S j x → Behind K' S' j x
  behind_to j x c d p = let u = c.key in let v = d.key in let l = p.1 in let lt : K' j < K' x = omega arith in (d.slot ∙ p.0 ∙ sym c.slot, lt)

module _ (A A' : ℕ → Type 0) (K K' S S' : ℕ → ℕ) (next next' head head' : ℕ → Option ℕ) (s i : ℕ)
    (distinct : (a b : ℕ) → A a → A b → K a ≡ K b → a ≡ b) (ch : IsChained A K S next head) (low : s < 256) where
  abbrev Same : ℕ → Type 0
  Same j = IsSame A A' K K' S S' j

  abbrev Next : ℕ → Option ℕ → Type 0
  Next j at = IsFirst A' K' (Behind K' S' j) at

  abbrev Head : ℕ → Option ℕ → Type 0
  Head r at = IsFirst A' K' (λ j. S' j ≡ r) at

  -- of a slot, what stands below k is at b or before it
  lower : (b k : ℕ) → IsBack A K S s k b → (j : ℕ) → A j → j ≢ b → S j ≡ s → K j < k → K j < K b
  lower b k last j a ne p l = go (cases_eq (K j) (K b))
    where
      go : (K j ≡ K b) ⊎ (K j ≢ K b) → K j < K b
      go (inl e) = absurd (ne (distinct j b a last.armed e))
      go (inr nk) = let m = last.most j a p l in omega arith

  module _ (before : Option ℕ) (g : IsAdded A A' K K' S S' next next' head head' s before i) (new : (j : ℕ) → A j → K j ≢ K' i) where
    add_head_empty : IsLast A K S s (K' i) None → head' s ≡ Some i → Head s (head' s)
    add_head_empty n e = subst (Head s) (sym e) (record { armed = g.here; meets = g.place; least = λ j a p. least j a p (cases_eq j i) })
      where
        least2 : (j : ℕ) → Same j → S j ≡ s → (K j < K' i) ⊎ (K' i ≤ K j) → K' i ≤ K' j
        least2 j b p (inl l) = absurd (n j b.old (p, l))
        least2 j b p (inr l) = let e = b.key in omega arith

        least : (j : ℕ) → A' j → S' j ≡ s → (j ≡ i) ⊎ (j ≢ i) → K' i ≤ K' j
        least j a p (inl e) = let f = ap K' e in omega arith
        least j a p (inr ne) = let b = g.old j a ne in least2 j b (sym b.slot ∙ p) (cases_lt (K j) (K' i))

    add_head_behind : (b : ℕ) → IsBack A K S s (K' i) b → head' s ≡ head s → Head s (head' s)
    add_head_behind b last e = subst (Head s) (sym e) (go (head s) (ch.heads s low))
      where
        go : (o : Option ℕ) → IsFirst A K (λ j. S j ≡ s) o → Head s o
        go None n = absurd (n b last.armed last.here)
        go (Some h) f =
            let c = g.kept h f.armed in
            front_as A A' K K' S S' (λ j. S j ≡ s) (λ j. S' j ≡ s) h f (λ j a p. from j a p (cases_eq j i)) c (c.slot ∙ f.meets)
          where
            from : (j : ℕ) → A' j → S' j ≡ s → (j ≡ i) ⊎ (j ≢ i) → (Same j × (S j ≡ s)) ⊎ (K' h ≤ K' j)
            from j a p (inl e) =
                let c = g.kept h f.armed in let k = c.key in
                let l = f.least b last.armed last.here in let w = last.below in let q = ap K' e in
                inr (omega arith)
            from j a p (inr ne) = let c = g.old j a ne in inl (c, sym c.slot ∙ p)

    add_head_other : (r : ℕ) → r < 256 → r ≢ s → Head r (head' r)
    add_head_other r lt ne =
        subst (Head r) (sym (g.others r ne))
        (first_as A A' K K' S S' (λ j. S j ≡ r) (λ j. S' j ≡ r) (head r) (ch.heads r lt)
        (λ j a p. let c = g.old j a (λ e. ne (sym p ∙ ap S' e ∙ g.place)) in (c, sym c.slot ∙ p))
        (λ h is f. let c = g.kept h f.armed in (c, c.slot ∙ f.meets)))

    -- ---- the new one's own link

    not_below : (h : ℕ) → Same h → (K h < K' i → ⊥) → K' i < K' h
    not_below h c not = go (cases_lt (K h) (K' i)) (cases_eq (K h) (K' i))
      where
        go : (K h < K' i) ⊎ (K' i ≤ K h) → (K h ≡ K' i) ⊎ (K h ≢ K' i) → K' i < K' h
        go (inl l) o = absurd (not l)
        go (inr l) (inl e) = absurd (new h c.old e)
        go (inr l) (inr ne) = let e = c.key in omega arith

    old_behind : (j : ℕ) → A' j → Behind K' S' i j → Same j
    old_behind j a p = g.old j a (λ e. let q = ap K' e in let l = p.1 in absurd (omega arith))

    own_at_head : IsLast A K S s (K' i) None → next' i ≡ head s → Next i (next' i)
    own_at_head n e =
        subst (Next i) (sym e)
        (first_as A A' K K' S S' (λ j. S j ≡ s) (Behind K' S' i) (head s) (ch.heads s low)
        (λ j a p. let c = old_behind j a p in (c, sym c.slot ∙ p.0 ∙ g.place))
        (λ h is f. let c = g.kept h f.armed in (c, (c.slot ∙ f.meets ∙ sym g.place, not_below h c (λ l. n h f.armed (f.meets, l))))))

    own_behind : (b : ℕ) → IsBack A K S s (K' i) b → next' i ≡ next b → Next i (next' i)
    own_behind b last e =
        subst (Next i) (sym e)
        (first_as A A' K K' S S' (Behind K S b) (Behind K' S' i) (next b) (ch.nexts b last.armed)
        (λ j a p. let c = old_behind j a p in
        let e = c.key in let l = p.1 in let w = last.below in let lt : K b < K j = omega arith in (c, (sym c.slot ∙ p.0 ∙ g.place ∙ sym last.here, lt)))
        (λ h is f. let c = g.kept h f.armed in (
          c,
          (
            c.slot ∙ f.meets.0 ∙ last.here ∙ sym g.place,
            not_below h c (λ l. let m = last.most h f.armed (f.meets.0 ∙ last.here) l in let x = f.meets.1 in absurd (omega arith)),
          ),
        )))

    -- ---- another's link

    other_at_head : IsLast A K S s (K' i) None → (j : ℕ) → Same j → next' j ≡ next j → Next j (next' j)
    other_at_head n j c e =
        subst (Next j) (sym e)
        (first_as A A' K K' S S' (Behind K S j) (Behind K' S' j) (next j) (ch.nexts j c.old)
        (λ x a p. let d = g.old x a (λ e. not_new x e p) in (d, behind_as A A' K K' S S' j x c d p))
        (λ h is f. let d = g.kept h f.armed in (d, behind_to A A' K K' S S' j h c d f.meets)))
      where
        not_new : (x : ℕ) → x ≡ i → Behind K' S' j x → ⊥
        not_new x e p =
            let q = ap K' e in let u = c.key in let l = p.1 in let lt : K j < K' i = omega arith in
            n j c.old (sym c.slot ∙ sym p.0 ∙ ap S' e ∙ g.place, lt)

    -- the link of the one that the new one stands behind
    before_link : (b : ℕ) → IsBack A K S s (K' i) b → Same b → next' b ≡ Some i → Next b (next' b)
    before_link b last c e =
        let u = c.key in let w = last.below in let lt : K' b < K' i = omega arith in
        subst (Next b) (sym e)
        (record { armed = g.here; meets = (g.place ∙ sym last.here ∙ sym c.slot, lt); least = λ x a p. least x a p (cases_eq x i) })
      where
        least2 : (x : ℕ) → Same x → Behind K S b x → (K x < K' i) ⊎ (K' i ≤ K x) → K' i ≤ K' x
        least2 x d p (inl l) = let m = last.most x d.old (p.0 ∙ last.here) l in let q = p.1 in absurd (omega arith)
        least2 x d p (inr l) = let e = d.key in omega arith

        least : (x : ℕ) → A' x → Behind K' S' b x → (x ≡ i) ⊎ (x ≢ i) → K' i ≤ K' x
        least x a p (inl f) = let q = ap K' f in omega arith
        least x a p (inr nx) = let d = g.old x a nx in least2 x d (behind_as A A' K K' S S' b x c d p) (cases_lt (K x) (K' i))

    other_behind : (b : ℕ) → IsBack A K S s (K' i) b → (j : ℕ) → j ≢ b → Same j → next' j ≡ next j → Next j (next' j)
    other_behind b last j nb c e = subst (Next j) (sym e) (go (next j) (ch.nexts j c.old))
      where
        -- where the new one is behind j, so is b
        here_too : (x : ℕ) → x ≡ i → Behind K' S' j x → Behind K S j b
        here_too x e p =
            let q = ap K' e in let u = c.key in let l = p.1 in let lt : K j < K' i = omega arith in
            let h : S j ≡ s = sym c.slot ∙ sym p.0 ∙ ap S' e ∙ g.place in
            (last.here ∙ sym h, lower b (K' i) last j c.old nb h lt)

        go : (o : Option ℕ) → IsFirst A K (Behind K S j) o → Next j o
        go None n = λ x a p. nobody x a p (cases_eq x i)
          where
            nobody : (x : ℕ) → A' x → Behind K' S' j x → (x ≡ i) ⊎ (x ≢ i) → ⊥
            nobody x a p (inl e) = n b last.armed (here_too x e p)
            nobody x a p (inr nx) = let d = g.old x a nx in n x d.old (behind_as A A' K K' S S' j x c d p)
        go (Some h) f =
            let d = g.kept h f.armed in
            front_as A A' K K' S S' (Behind K S j) (Behind K' S' j) h f (λ x a p. from x a p (cases_eq x i)) d (behind_to A A' K K' S S' j h c d f.meets)
          where
            from : (x : ℕ) → A' x → Behind K' S' j x → (x ≡ i) ⊎ (x ≢ i) → (Same x × Behind K S j x) ⊎ (K' h ≤ K' x)
            from x a p (inl e) =
                let d = g.kept h f.armed in let k = d.key in
                let m = f.least b last.armed (here_too x e p) in let w = last.below in let q = ap K' e in
                inr (omega arith)
            from x a p (inr nx) = let d = g.old x a nx in inl (d, behind_as A A' K K' S S' j x c d p)

  pub add_chained : (before : Option ℕ) → IsAdded A A' K K' S S' next next' head head' s before i → ((j : ℕ) → A j → K j ≢ K' i) → IsLast A K S s (K' i) before → IsChained A' K' S' next' head'
  add_chained before g new last = record { heads = λ r lt. heads before g last r lt (cases_eq r s); nexts = λ j a. nexts before g last j a (cases_eq j i) }
    where
      heads : (before : Option ℕ) (g : IsAdded A A' K K' S S' next next' head head' s before i) → IsLast A K S s (K' i) before → (r : ℕ) → r < 256 → (r ≡ s) ⊎ (r ≢ s) → Head r (head' r)
      heads before g last r lt (inr ne) = add_head_other before g new r lt ne
      heads None g last r lt (inl e) = subst (λ (q : ℕ). Head q (head' q)) (sym e) (add_head_empty None g new last g.linked.1)
      heads (Some b) g last r lt (inl e) = subst (λ (q : ℕ). Head q (head' q)) (sym e) (add_head_behind (Some b) g new b last g.linked.2)

      others : (b : ℕ) (g : IsAdded A A' K K' S S' next next' head head' s (Some b) i) → IsBack A K S s (K' i) b → (j : ℕ) → j ≢ i → Same j → (j ≡ b) ⊎ (j ≢ b) → Next j (next' j)
      others b g last j ne c (inl e) = subst (λ (q : ℕ). Next q (next' q)) (sym e) (before_link (Some b) g new b last (g.kept b last.armed) g.linked.1)
      others b g last j ne c (inr nb) = other_behind (Some b) g new b last j nb c (g.linked.3 j ne nb)

      nexts : (before : Option ℕ) (g : IsAdded A A' K K' S S' next next' head head' s before i) → IsLast A K S s (K' i) before → (j : ℕ) → A' j → (j ≡ i) ⊎ (j ≢ i) → Next j (next' j)
      nexts None g last j a (inl e) = subst (λ (q : ℕ). Next q (next' q)) (sym e) (own_at_head None g new last g.linked.0)
      nexts None g last j a (inr ne) = other_at_head None g new last j (g.old j a ne) (g.linked.2 j ne)
      nexts (Some b) g last j a (inl e) = subst (λ (q : ℕ). Next q (next' q)) (sym e) (own_behind (Some b) g new b last g.linked.0)
      nexts (Some b) g last j a (inr ne) = others b g last j ne (g.old j a ne) (cases_eq j b)

  module _ (before : Option ℕ) (g : IsTaken A A' K K' S S' next next' head head' s before i) where
    not_gone : (j : ℕ) → A' j → j ≢ i
    not_gone j a e = g.gone (subst A' e a)

    -- a node of the slot other than i that isn't below i is behind it
    up : (j : ℕ) → A j → j ≢ i → (K j < K i → ⊥) → K i < K j
    up j a nj not = go (cases_lt (K j) (K i)) (cases_eq (K j) (K i))
      where
        go : (K j < K i) ⊎ (K i ≤ K j) → (K j ≡ K i) ⊎ (K j ≢ K i) → K i < K j
        go (inl l) o = absurd (not l)
        go (inr l) (inl e) = absurd (nj (distinct j i a g.was e))
        go (inr l) (inr ne) = omega arith

    front_kept : (h : ℕ) → IsFront A K (Behind K S i) h → Same h
    front_kept h f = g.kept h f.armed (λ e. let q = ap K e in let l = f.meets.1 in absurd (omega arith))

    take_first : IsLast A K S s (K i) None → head' s ≡ next i → Head s (head' s)
    take_first n e =
        subst (Head s) (sym e)
        (first_as A A' K K' S S' (Behind K S i) (λ j. S' j ≡ s) (next i) (ch.nexts i g.was)
        (λ j a p. let c = g.old j a in let q = sym c.slot ∙ p in (c, (q ∙ sym g.place, up j c.old (not_gone j a) (λ l. n j c.old (q, l)))))
        (λ h is f. let c = front_kept h f in (c, c.slot ∙ f.meets.0 ∙ g.place)))

    take_head_behind : (b : ℕ) → IsBack A K S s (K i) b → head' s ≡ head s → Head s (head' s)
    take_head_behind b last e =
        subst (Head s) (sym e)
        (first_as A A' K K' S S' (λ j. S j ≡ s) (λ j. S' j ≡ s) (head s) (ch.heads s low)
        (λ j a p. let c = g.old j a in (c, sym c.slot ∙ p))
        (λ h is f. let l = f.least b last.armed last.here in let w = last.below in
        let c = g.kept h f.armed (λ e. let q = ap K e in absurd (omega arith)) in (c, c.slot ∙ f.meets)))

    take_head_other : (r : ℕ) → r < 256 → r ≢ s → Head r (head' r)
    take_head_other r lt ne =
        subst (Head r) (sym (g.others r ne))
        (first_as A A' K K' S S' (λ j. S j ≡ r) (λ j. S' j ≡ r) (head r) (ch.heads r lt)
        (λ j a p. let c = g.old j a in (c, sym c.slot ∙ p))
        (λ h is f. let c = g.kept h f.armed (λ e. ne (sym f.meets ∙ ap S e ∙ g.place)) in (c, c.slot ∙ f.meets)))

    -- the link of another, of which i is not the next
    link_kept : (j : ℕ) → A' j → ((h : ℕ) → IsFront A K (Behind K S j) h → h ≢ i) → next' j ≡ next j → Next j (next' j)
    link_kept j a not e =
        let c = g.old j a in
        subst (Next j) (sym e)
        (first_as A A' K K' S S' (Behind K S j) (Behind K' S' j) (next j) (ch.nexts j c.old)
        (λ x b p. let d = g.old x b in (d, behind_as A A' K K' S S' j x c d p))
        (λ h is f. let d = g.kept h f.armed (not h f) in (d, behind_to A A' K K' S S' j h c d f.meets)))

    not_first : IsLast A K S s (K i) None → (j : ℕ) → A j → (h : ℕ) → IsFront A K (Behind K S j) h → h ≢ i
    not_first n j a h f e = let q = ap K e in let l = f.meets.1 in let lt : K j < K i = omega arith in n j a (sym f.meets.0 ∙ ap S e ∙ g.place, lt)

    not_behind : (b : ℕ) → IsBack A K S s (K i) b → (j : ℕ) → A j → j ≢ b → (h : ℕ) → IsFront A K (Behind K S j) h → h ≢ i
    not_behind b last j a nb h f e =
        let q = ap K e in let l = f.meets.1 in let lt : K j < K i = omega arith in
        let p : S j ≡ s = sym f.meets.0 ∙ ap S e ∙ g.place in
        let m = f.least b last.armed (last.here ∙ sym p, lower b (K i) last j a nb p lt) in let w = last.below in absurd (omega arith)

    -- the link of the one that i stood behind
    link_over : (b : ℕ) → IsBack A K S s (K i) b → Same b → next' b ≡ next i → Next b (next' b)
    link_over b last c e =
        subst (Next b) (sym e)
        (first_as A A' K K' S S' (Behind K S i) (Behind K' S' b) (next i) (ch.nexts i g.was)
        (λ x y p. let d = g.old x y in let h = behind_as A A' K K' S S' b x c d p in
        let sx : S x ≡ s = h.0 ∙ last.here in
        (d, (sx ∙ sym g.place, up x d.old (not_gone x y) (λ l. let m = last.most x d.old sx l in let q = h.1 in absurd (omega arith)))))
        (λ h is f.
        let d = front_kept h f in
        let l = f.meets.1 in let w = last.below in let lt : K b < K h = omega arith in
        (d, behind_to A A' K K' S S' b h c d (f.meets.0 ∙ g.place ∙ sym last.here, lt))))

  pub take_chained : (before : Option ℕ) → IsTaken A A' K K' S S' next next' head head' s before i → IsLast A K S s (K i) before → IsChained A' K' S' next' head'
  take_chained before g last = record { heads = λ r lt. heads before g last r lt (cases_eq r s); nexts = λ j a. nexts before g last j a }
    where
      heads : (before : Option ℕ) (g : IsTaken A A' K K' S S' next next' head head' s before i) → IsLast A K S s (K i) before → (r : ℕ) → r < 256 → (r ≡ s) ⊎ (r ≢ s) → Head r (head' r)
      heads before g last r lt (inr ne) = take_head_other before g r lt ne
      heads None g last r lt (inl e) = subst (λ (q : ℕ). Head q (head' q)) (sym e) (take_first None g last g.linked.0)
      heads (Some b) g last r lt (inl e) = subst (λ (q : ℕ). Head q (head' q)) (sym e) (take_head_behind (Some b) g b last g.linked.1)

      others : (b : ℕ) (g : IsTaken A A' K K' S S' next next' head head' s (Some b) i) → IsBack A K S s (K i) b → (j : ℕ) → A' j → (j ≡ b) ⊎ (j ≢ b) → Next j (next' j)
      others b g last j a (inl e) = subst (λ (q : ℕ). Next q (next' q)) (sym e) (link_over (Some b) g b last (g.old b (subst A' e a)) g.linked.0)
      others b g last j a (inr nb) = link_kept (Some b) g j a (not_behind (Some b) g b last j (g.old j a).old nb) (g.linked.2 j (not_gone (Some b) g j a) nb)

      nexts : (before : Option ℕ) (g : IsTaken A A' K K' S S' next next' head head' s before i) → IsLast A K S s (K i) before → (j : ℕ) → A' j → Next j (next' j)
      nexts None g last j a = link_kept None g j a (not_first None g last j (g.old j a).old) (g.linked.1 j (not_gone None g j a))
      nexts (Some b) g last j a = others b g last j a (cases_eq j b)
