-- The scripts have one order.
use Rattle.std.proofs.Common.{◌≡◌, ℕ, ◌<◌, ◌≤◌, ◌==◌, Bool, true, false, cond, List, [], ◌∷◌, get_or, drop, refl, sym, ap, ◌∙◌, subst, ⊎_elim, arith, eq-eqb}
use Rattle.std.specs.Prelude.{map, filter}
use Rattle.std.specs.List.{AllByRecursion}
use Rattle.std.proofs.lemmas.Bool.{eqb-true}
use Rattle.grub_plan.specs.Plans.{Line}
use Rattle.grub_timeline.specs.declared.order.PlacedLine.{PlacedLine}
use Rattle.grub_timeline.specs.Order.{IsNotLater, IsOrder, IsSorted, lines_of}
use Rattle.grub_timeline.specs.inside.Merge.{placed}
use Rattle.grub_timeline.proofs.Sooner.{not_later-refl}

abbrev pub lines_with : Bool → PlacedLine → List Line → List Line
lines_with b p ls = cond b (p.line ∷ ls) ls

pub lines_cons : (r : ℕ) (p : PlacedLine) (ps : List PlacedLine) → lines_of r (p ∷ ps) ≡ lines_with (p.runqueue == r) p (lines_of r ps)
lines_cons r p ps = go (p.runqueue == r)
  where
    go : (b : Bool) → map (λ (q : PlacedLine). q.line) (cond b (p ∷ filter (λ (q : PlacedLine). q.runqueue == r) ps) (filter (λ (q : PlacedLine). q.runqueue == r) ps)) ≡ lines_with b p (lines_of r ps)
    go true = refl
    go false = refl

pub own_first : (p : PlacedLine) (ps : List PlacedLine) → lines_of p.runqueue (p ∷ ps) ≡ p.line ∷ lines_of p.runqueue ps
own_first p ps = lines_cons p.runqueue p ps ∙ ap (λ b. lines_with b p (lines_of p.runqueue ps)) (eq-eqb p.runqueue p.runqueue refl)

-- what holds of each line holds of the first one of a runqueue
first_line : (P : PlacedLine → Type 0) (r : ℕ) (l : Line) (ls : List Line) (ps : List PlacedLine) → lines_of r ps ≡ l ∷ ls → AllByRecursion P ps → P (placed r l)
first_line P r l ls [] is all = absurd (cc)
first_line P r l ls (p ∷ ps) is all = go (λ rest. first_line P r l ls ps rest all.1) (p.runqueue == r) refl
  where
    go : (lines_of r ps ≡ l ∷ ls → P (placed r l)) → (b : Bool) → (p.runqueue == r) ≡ b → P (placed r l)
    go more true same =
        let at : p.line ∷ lines_of r ps ≡ l ∷ ls = ap (λ b. lines_with b p (lines_of r ps)) (sym same) ∙ sym (lines_cons r p ps) ∙ is in
        let run : p.runqueue ≡ r = eqb-true p.runqueue r same in
        subst P (λ i. record { runqueue = run i; line = get_or (at i) 0 l }) all.0
    go more false other = more (ap (λ b. lines_with b p (lines_of r ps)) (sym other) ∙ sym (lines_cons r p ps) ∙ is)

both_first : (p q : PlacedLine) → IsNotLater p q → IsNotLater q p → p.runqueue ≡ q.runqueue
both_first p q a b = ⊎_elim
    (λ (h : p.line.m < q.line.m). ⊎_elim (λ (k : q.line.m < p.line.m). absurd (omega arith)) (λ (k : (q.line.m ≡ p.line.m) × (q.runqueue ≤ p.runqueue)). let same = k.0 in absurd (omega (arith, h, same))) b)
    (λ (h : (p.line.m ≡ q.line.m) × (p.runqueue ≤ q.runqueue)). ⊎_elim (λ (k : q.line.m < p.line.m). let same = h.0 in absurd (omega (arith, k, same)))
    (λ (k : (q.line.m ≡ p.line.m) × (q.runqueue ≤ p.runqueue)). let low = h.1 in let high = k.1 in omega (arith, low, high)) b)
    a

tails : (r : ℕ) (p : PlacedLine) (a b : List PlacedLine) → lines_of r (p ∷ a) ≡ lines_of r (p ∷ b) → lines_of r a ≡ lines_of r b
tails r p a b is = go (p.runqueue == r) (sym (lines_cons r p a) ∙ is ∙ lines_cons r p b)
  where
    go : (c : Bool) → lines_with c p (lines_of r a) ≡ lines_with c p (lines_of r b) → lines_of r a ≡ lines_of r b
    go true e = ap (drop 1) e
    go false e = e

pub same_order : (a b : List PlacedLine) → IsSorted a → IsSorted b → ((r : ℕ) → lines_of r a ≡ lines_of r b) → a ≡ b
same_order [] [] s t is = refl
same_order [] (q ∷ b) s t is = let bad : [] ≡ q.line ∷ lines_of q.runqueue b = is q.runqueue ∙ own_first q b in absurd (cc)
same_order (p ∷ a) [] s t is = let bad : [] ≡ p.line ∷ lines_of p.runqueue a = sym (is p.runqueue) ∙ own_first p a in absurd (cc)
same_order (p ∷ a) (q ∷ b) s t is =
    let forth : IsNotLater q p = first_line (IsNotLater q) p.runqueue p.line (lines_of p.runqueue a) (q ∷ b) (sym (is p.runqueue) ∙ own_first p a) (not_later-refl q, t.0) in
    let back : IsNotLater p q = first_line (IsNotLater p) q.runqueue q.line (lines_of q.runqueue b) (p ∷ a) (is q.runqueue ∙ own_first q b) (not_later-refl p, s.0) in
    let run : p.runqueue ≡ q.runqueue = both_first p q back forth in
    let heads : p.line ∷ lines_of p.runqueue a ≡ q.line ∷ lines_of q.runqueue b = sym (own_first p a) ∙ is p.runqueue ∙ ap (λ r. lines_of r (q ∷ b)) run ∙ own_first q b in
    let same : p ≡ q = λ i. record { runqueue = run i; line = get_or (heads i) 0 p.line } in
    let rest : a ≡ b = same_order a b s.1 t.1 (λ r. tails r q a b (ap (λ x. lines_of r (x ∷ a)) (sym same) ∙ is r)) in
    λ i. same i ∷ rest i

pub one_order : (scripts : List (List Line)) (a b : List PlacedLine) → IsOrder scripts a → IsOrder scripts b → a ≡ b
one_order scripts a b f g = same_order a b f.sorted g.sorted (λ r. f.lines r ∙ sym (g.lines r))
