-- The search for the earliest timer that is due.
use Rattle.std.proofs.Common.{◌≡◌, ◌≢◌, ℕ, ◌+◌, ◌-◌, ◌%◌, ◌<◌, ◌≤◌, ◌⊎◌, inl, inr, min, Option, Some, None, refl, ap, ◌∙◌, sym, arith, subst, List, length}
use Rattle.std.proofs.lemmas.Option.{same_Some}
use Rattle.std.specs.Prelude.{IfSome, IsSomeAnd}
use Rattle.std.proofs.lemmas.List.{get_or_past}
use Rattle.grub_wheel.specs.declared.node.Node.{Node}
use Rattle.grub_wheel.specs.inside.Nodes.{free_node, node_at, Armed, keys, slots, tasks, moments, head_of, AreInSlots, IsFirstOf, IsSooner}
use Rattle.grub_wheel.specs.inside.Used.{IsMapped, mark_of}
use Rattle.std.proofs.lemmas.Bool.{cases_lt, cases_eq, both_ways}
use Rattle.grub_wheel.proofs.Keys.{key_moments, later_key}

off_here : (z f k : ℕ) → f ≤ z → k < 256 → z % 256 ≡ (f + k) % 256 → (z - f) % 256 ≡ k
off_here z f k le lt e = omega arith

off_slot : (z f k : ℕ) → f ≤ z → (z - f) % 256 ≡ k → z % 256 ≡ (f + k) % 256
off_slot z f k le e = omega arith

pub armed_within : (ns : List Node) (j : ℕ) → Armed ns j → j < length ns
armed_within ns j a = go (cases_lt j (length ns))
  where
    go : (j < length ns) ⊎ (length ns ≤ j) → j < length ns
    go (inl l) = l
    go (inr l) = absurd (both_ways (node_at ns j).armed (ap (λ (n : Node). n.armed) (get_or_past ns j free_node l)) a)

-- ---- the earlier of two

pub best_is_sooner : (ns : List Node) (best head : Option ℕ) (m i j : ℕ) → head ≡ Some i → best ≡ Some j → keys ns j < keys ns i → IsSooner ns best head m (Some j)
best_is_sooner ns best head m i j eh eb lt = record {
  unused = λ e. sym eb;
  late = λ h e l. sym eb;
  only = λ h e l n. absurd (let x = sym eb ∙ n in cc);
  later = λ h b e l f k. sym eb;
  sooner = λ h b e l f k.
      let x = ap (keys ns) (same_Some i h (sym eh ∙ e)) in
      let y = ap (keys ns) (same_Some j b (sym eb ∙ f)) in
      absurd (omega arith);
}

module _ (ns : List Node) (hs : List (Option ℕ)) (sound : AreInSlots ns hs) (P Q : ℕ → Type 0) (s m : ℕ)
    (in_old : (i : ℕ) → Armed ns i → P i → Q i)
    (in_new : (i : ℕ) → Armed ns i → slots ns i ≡ s → moments ns i ≤ m → Q i)
    (out : (i : ℕ) → Armed ns i → Q i → P i ⊎ ((slots ns i ≡ s) × (moments ns i ≤ m))) where
  abbrev New : ℕ → Type 0
  New i = (slots ns i ≡ s) × (moments ns i ≤ m)

  keep : ((i : ℕ) → Armed ns i → slots ns i ≡ s → moments ns i ≤ m → ⊥) → (best : Option ℕ) → IsFirstOf ns P best → IsFirstOf ns Q best
  keep none None n = λ i a q. go i a (out i a q)
    where
      go : (i : ℕ) → Armed ns i → P i ⊎ New i → ⊥
      go i a (inl p) = n i a p
      go i a (inr p) = none i a p.0 p.1
  keep none (Some b) f = record { armed = f.armed; meets = in_old b f.armed f.meets; least = λ i a q. go i a (out i a q) }
    where
      go : (i : ℕ) → Armed ns i → P i ⊎ New i → keys ns b ≤ keys ns i
      go i a (inl p) = f.least i a p
      go i a (inr p) = absurd (none i a p.0 p.1)

  head_best : (best : Option ℕ) (h : ℕ) → IsFirstOf ns P best → ((b : ℕ) → best ≡ Some b → keys ns h ≤ keys ns b) → IsFirstOf ns (λ i. slots ns i ≡ s) (Some h) → moments ns h ≤ m → IsFirstOf ns Q (Some h)
  head_best best h b below f l = record { armed = f.armed; meets = in_new h f.armed f.meets l; least = λ i a q. go best b below i a (out i a q) }
    where
      go : (best : Option ℕ) → IsFirstOf ns P best → ((b : ℕ) → best ≡ Some b → keys ns h ≤ keys ns b) → (i : ℕ) → Armed ns i → P i ⊎ New i → keys ns h ≤ keys ns i
      go best b below i a (inr p) = f.least i a p.0
      go None b below i a (inl p) = absurd (b i a p)
      go (Some c) b below i a (inl p) = let g = b.least i a p in let k = below c refl in omega arith

  best_best : (b h : ℕ) → IsFirstOf ns P (Some b) → keys ns b < keys ns h → IsFirstOf ns (λ i. slots ns i ≡ s) (Some h) → IsFirstOf ns Q (Some b)
  best_best b h g k f = record { armed = g.armed; meets = in_old b g.armed g.meets; least = λ i a q. go i a (out i a q) }
    where
      go : (i : ℕ) → Armed ns i → P i ⊎ New i → keys ns b ≤ keys ns i
      go i a (inl p) = g.least i a p
      go i a (inr p) = let l = f.least i a p.0 in omega arith

  pub sooner_first : (best head result : Option ℕ) → IsSooner ns best head m result → IsFirstOf ns P best → IsFirstOf ns (λ i. slots ns i ≡ s) head → IsFirstOf ns Q result
  sooner_first best None result r b n = subst (IsFirstOf ns Q) (sym (r.unused refl)) (keep (λ i a p l. n i a p) best b)
  sooner_first best (Some h) result r b f = go (cases_lt m (moments ns h))
    where
      due : moments ns h ≤ m → (best : Option ℕ) → IsSooner ns best (Some h) m result → IsFirstOf ns P best → IsFirstOf ns Q result
      due l None r b = subst (IsFirstOf ns Q) (sym (r.only h refl l refl)) (head_best None h b (λ c e. absurd cc) f l)
      due l (Some c) r b = which (cases_lt (keys ns c) (keys ns h))
        where
          which : (keys ns c < keys ns h) ⊎ (keys ns h ≤ keys ns c) → IsFirstOf ns Q result
          which (inl k) = subst (IsFirstOf ns Q) (sym (r.later h c refl l refl k)) (best_best c h b k f)
          which (inr k) = subst (IsFirstOf ns Q) (sym (r.sooner h c refl l refl k)) (head_best (Some c) h b (λ d e. let x = ap (keys ns) (same_Some c d e) in omega arith) f l)

      go : (m < moments ns h) ⊎ (moments ns h ≤ m) → IsFirstOf ns Q result
      go (inl l) =
          subst (IsFirstOf ns Q) (sym (r.late h refl l))
          (keep (λ i a p k. let g = key_moments (moments ns h) (tasks ns h) (moments ns i) (tasks ns i) (sound.narrow i a) (f.least i a p) in absurd (omega arith)) best b)
      go (inr l) = due l best r b

empty_slot : (ns : List Node) (hs : List (Option ℕ)) → AreInSlots ns hs → (us : List ℕ) → IsMapped us hs → (r : ℕ) → r < 256 → mark_of us r ≡ 0 → (i : ℕ) → Armed ns i → slots ns i ≢ r
empty_slot ns hs sound us mapped r lt z i a p = go (head_of hs r) refl (sound.chained.heads r lt)
  where
    go : (o : Option ℕ) → head_of hs r ≡ o → IsFirstOf ns (λ j. slots ns j ≡ r) o → ⊥
    go None e n = n i a p
    go (Some h) e f = let o = mapped r lt (λ n. let x = sym e ∙ n in absurd cc) in let q : 0 ≡ 1 = sym z ∙ o in absurd (omega (arith, q))

-- ---- a bound by the heads of the slots

module _ (ns : List Node) (hs : List (Option ℕ)) (sound : AreInSlots ns hs) (us : List ℕ) (mapped : IsMapped us hs) (slot next bound : ℕ)
    (none : (r : ℕ) → slot ≤ r → r < next → mark_of us r ≡ 0) (old : (i : ℕ) → Armed ns i → slots ns i < slot → bound ≤ moments ns i) where
  pub bound_passes : (i : ℕ) → Armed ns i → slots ns i < next → bound ≤ moments ns i
  bound_passes i a lt = go (cases_lt (slots ns i) slot)
    where
      go : (slots ns i < slot) ⊎ (slot ≤ slots ns i) → bound ≤ moments ns i
      go (inl l) = old i a l
      go (inr l) = let b : slots ns i < 256 = omega arith in absurd (empty_slot ns hs sound us mapped (slots ns i) b (none (slots ns i) l lt) i a refl)

  pub bound_goes_on : (result : ℕ) → next < 256 → result ≤ bound → IfSome (head_of hs next) (λ h. result ≤ moments ns h) → (i : ℕ) → Armed ns i → slots ns i < next + 1 → result ≤ moments ns i
  bound_goes_on result low le at i a lt = go (cases_eq (slots ns i) next)
    where
      at_head : (o : Option ℕ) → IsFirstOf ns (λ j. slots ns j ≡ next) o → IfSome o (λ h. result ≤ moments ns h) → slots ns i ≡ next → result ≤ moments ns i
      at_head None n h e = absurd (n i a e)
      at_head (Some k) f h e = let g = key_moments (moments ns k) (tasks ns k) (moments ns i) (tasks ns i) (sound.narrow i a) (f.least i a e) in omega arith

      go : (slots ns i ≡ next) ⊎ (slots ns i ≢ next) → result ≤ moments ns i
      go (inl e) = at_head (head_of hs next) (sound.chained.heads next low) at e
      go (inr ne) = let p = bound_passes i a (omega arith) in omega arith

-- ---- the slots of the moments from `from` on

-- what the search has seen of the k slots from a moment on
pub record IsScanned (ns : List Node) (from m k : ℕ) (best : Option ℕ) : Type 0 where
  pub seen : IsFirstOf ns (λ i. (moments ns i ≤ m) × ((moments ns i - from) % 256 < k)) best
  pub exact : (i : ℕ) → Armed ns i → from + k ≤ moments ns i

module _ (ns : List Node) (hs : List (Option ℕ)) (sound : AreInSlots ns hs) (from m : ℕ) (after : (i : ℕ) → Armed ns i → from ≤ moments ns i) where
  pub head_first : (k : ℕ) → IsFirstOf ns (λ i. slots ns i ≡ (from + k) % 256) (head_of hs ((from + k) % 256))
  head_first k = sound.chained.heads ((from + k) % 256) (omega arith)

  module _ (us : List ℕ) (mapped : IsMapped us hs) (k slot next at : ℕ) (e : slot ≡ (from + k) % 256) (lo : slot ≤ next) (hi : next ≤ 256)
      (none : (r : ℕ) → slot ≤ r → r < next → mark_of us r ≡ 0) (is : at ≡ k + (next - slot)) (kl : k < 256) where
    place_of : (z o : ℕ) → from ≤ z → (z - from) % 256 ≡ o → k ≤ o → o < at → (slot ≤ z % 256) × (z % 256 < next)
    place_of z o f q l h =
        let p = off_slot z from o f q in
        let w : z % 256 ≡ slot + (o - k) = omega (arith, p, e, l, h, is, hi, lo) in
        (omega (arith, w), omega (arith, w, h, is, lo, l))

    no_such : (i o : ℕ) → Armed ns i → (moments ns i - from) % 256 ≡ o → k ≤ o → o < at → ⊥
    no_such i o a q l h =
        let p = place_of (moments ns i) o (after i a) q l h in
        let b : moments ns i % 256 < 256 = omega arith in
        empty_slot ns hs sound us mapped (moments ns i % 256) b (none (moments ns i % 256) p.0 p.1) i a refl

    not_passed : (i : ℕ) → Armed ns i → (moments ns i - from) % 256 < at → (moments ns i - from) % 256 < k
    not_passed i a h = go (cases_lt ((moments ns i - from) % 256) k)
      where
        go : ((moments ns i - from) % 256 < k) ⊎ (k ≤ (moments ns i - from) % 256) → (moments ns i - from) % 256 < k
        go (inl l) = l
        go (inr l) = absurd (no_such i ((moments ns i - from) % 256) a refl l h)

    passed_seen : (best : Option ℕ) → IsFirstOf ns (λ i. (moments ns i ≤ m) × ((moments ns i - from) % 256 < k)) best → IsFirstOf ns (λ i. (moments ns i ≤ m) × ((moments ns i - from) % 256 < at)) best
    passed_seen None n = λ i a p. n i a (p.0, not_passed i a p.1)
    passed_seen (Some b) f = record { armed = f.armed; meets = (f.meets.0, let l = f.meets.1 in omega (arith, l, is)); least = λ i a p. f.least i a (p.0, not_passed i a p.1) }

    passed_exact : (i : ℕ) → Armed ns i → from + k ≤ moments ns i → from + at ≤ moments ns i
    passed_exact i a x = go (cases_lt (moments ns i) (from + at))
      where
        go : (moments ns i < from + at) ⊎ (from + at ≤ moments ns i) → from + at ≤ moments ns i
        go (inr l) = l
        go (inl l) =
            let w : moments ns i % 256 ≡ slot + (moments ns i - from - k) = omega (arith, e, x, l, is, hi, lo) in
            let p : slot ≤ moments ns i % 256 = omega (arith, w) in
            let q : moments ns i % 256 < next = omega (arith, w, x, l, is, lo) in
            let b : moments ns i % 256 < 256 = omega arith in
            absurd (empty_slot ns hs sound us mapped (moments ns i % 256) b (none (moments ns i % 256) p q) i a refl)

  -- empty slots are passed over, up to the next used one
  pub skips : (us : List ℕ) → IsMapped us hs → (k next : ℕ) (best : Option ℕ) → IsScanned ns from m k best → k < 256 → (from + k) % 256 ≤ next → next ≤ 256
      → ((r : ℕ) → (from + k) % 256 ≤ r → r < next → mark_of us r ≡ 0) → IsScanned ns from m (k + (next - (from + k) % 256)) best
  skips us mapped k next best sc kl lo hi none = record {
    seen = passed_seen us mapped k ((from + k) % 256) next (k + (next - (from + k) % 256)) refl lo hi none refl kl best sc.seen;
    exact = λ i a. passed_exact us mapped k ((from + k) % 256) next (k + (next - (from + k) % 256)) refl lo hi none refl kl i a (sc.exact i a);
  }

  -- a head at the very moment is the earliest of all
  pub at_once : (k : ℕ) (best head : Option ℕ) → IsScanned ns from m k best → head ≡ head_of hs ((from + k) % 256) → IsSomeAnd head (λ h. moments ns h ≡ from + k) → from + k ≤ m → IsFirstOf ns (λ i. moments ns i ≤ m) head
  at_once k best None sc e is le = absurd is
  at_once k best (Some h) sc e is le = go (subst (IsFirstOf ns (λ i. slots ns i ≡ (from + k) % 256)) (sym e) (head_first k))
    where
      go : IsFirstOf ns (λ i. slots ns i ≡ (from + k) % 256) (Some h) → IsFirstOf ns (λ i. moments ns i ≤ m) (Some h)
      go f = record { armed = f.armed; meets = omega (arith, is, le); least = λ i a p. least i a (cases_lt (moments ns h) (moments ns i)) }
        where
          least : (i : ℕ) → Armed ns i → (moments ns h < moments ns i) ⊎ (moments ns i ≤ moments ns h) → keys ns h ≤ keys ns i
          least i a (inl l) = later_key (moments ns h) (tasks ns h) (moments ns i) (tasks ns i) (sound.narrow h f.armed) l
          least i a (inr l) =
              let x = sc.exact i a in
              let q : moments ns i ≡ from + k = omega (arith, l, x, is) in
              f.least i a (ap (λ (z : ℕ). z % 256) q)

  pub goes_past : (k : ℕ) (best head result : Option ℕ) → IsScanned ns from m k best → head ≡ head_of hs ((from + k) % 256) → k < 256
      → (IsSomeAnd head (λ h. moments ns h ≡ from + k) → ⊥) → IsSooner ns best head m result → IsScanned ns from m (k + 1) result
  goes_past k best head result sc e lt not_at r = record { seen = seen; exact = λ i a. exact i a (cases_eq (moments ns i) (from + k)) }
    where
      first : IsFirstOf ns (λ i. slots ns i ≡ (from + k) % 256) head
      first = subst (IsFirstOf ns (λ i. slots ns i ≡ (from + k) % 256)) (sym e) (head_first k)

      out : (i : ℕ) → Armed ns i → moments ns i ≤ m → (moments ns i - from) % 256 < k + 1 → ((moments ns i - from) % 256 < k) ⊎ (k ≤ (moments ns i - from) % 256)
          → ((moments ns i ≤ m) × ((moments ns i - from) % 256 < k)) ⊎ ((slots ns i ≡ (from + k) % 256) × (moments ns i ≤ m))
      out i a p l (inl q) = inl (p, q)
      out i a p l (inr q) =
          let o : (moments ns i - from) % 256 ≡ k = omega (arith, l, q) in
          inr (off_slot (moments ns i) from k (after i a) o, p)

      seen : IsFirstOf ns (λ i. (moments ns i ≤ m) × ((moments ns i - from) % 256 < k + 1)) result
      seen =
          sooner_first ns hs sound (λ i. (moments ns i ≤ m) × ((moments ns i - from) % 256 < k)) (λ i. (moments ns i ≤ m) × ((moments ns i - from) % 256 < k + 1)) ((from + k) % 256) m
          (λ i a p. let l = p.1 in (p.0, omega (arith, l)))
          (λ i a p l. let o = off_here (moments ns i) from k (after i a) lt p in (l, omega (arith, o)))
          (λ i a p. out i a p.0 p.1 (cases_lt ((moments ns i - from) % 256) k))
          best head result r sc.seen first

      there : (head : Option ℕ) → IsFirstOf ns (λ j. slots ns j ≡ (from + k) % 256) head → (IsSomeAnd head (λ h. moments ns h ≡ from + k) → ⊥) → (i : ℕ) → Armed ns i → moments ns i ≢ from + k
      there None n not i a q = n i a (ap (λ (z : ℕ). z % 256) q)
      there (Some h) f not i a q =
          let g = key_moments (moments ns h) (tasks ns h) (moments ns i) (tasks ns i) (sound.narrow i a) (f.least i a (ap (λ (z : ℕ). z % 256) q)) in
          let x = sc.exact h f.armed in
          not (omega (arith, g, x, q))

      exact : (i : ℕ) → Armed ns i → (moments ns i ≡ from + k) ⊎ (moments ns i ≢ from + k) → from + (k + 1) ≤ moments ns i
      exact i a (inl q) = absurd (there head first not_at i a q)
      exact i a (inr ne) = let x = sc.exact i a in omega arith

  pub all_seen : (k : ℕ) (best : Option ℕ) → IsScanned ns from m k best → min (m + 1 - from) 256 ≤ k → IsFirstOf ns (λ i. moments ns i ≤ m) best
  all_seen k best sc le = go best sc.seen
    where
      off : (i : ℕ) → Armed ns i → moments ns i ≤ m → (moments ns i - from) % 256 < k
      off i a p = let f = after i a in omega (arith, f, p, le)

      go : (best : Option ℕ) → IsFirstOf ns (λ i. (moments ns i ≤ m) × ((moments ns i - from) % 256 < k)) best → IsFirstOf ns (λ i. moments ns i ≤ m) best
      go None n = λ i a p. n i a (p, off i a p)
      go (Some b) f = record { armed = f.armed; meets = f.meets.0; least = λ i a p. f.least i a (p, off i a p) }
