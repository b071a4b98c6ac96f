-- As many shares as numbers below n, no two with one number: each number is one's.
use Rattle.std.proofs.Common.{◌≡◌, ◌≢◌, ◌⊎◌, ℕ, zero, suc, ◌<◌, ◌≤◌, cond, eqb, List, [], ◌∷◌, length, sym, refl, ap, ◌∙◌, subst, ⊎_elim, inl, inr, arith, eq-eqb, ne_eqb}
use mathlib.Core.Logic.{dite}
use native.Mathlib.Decide.{ℕ_discrete}
use Rattle.std.specs.List.{AllByRecursion}
use Rattle.grub_table.specs.declared.view.Share.{Share}
use Rattle.grub_table.specs.inside.Rule.{Apart}

abbrev Mem : ℕ → List ℕ → Type 0
Mem m [] = ⊥
Mem m (k ∷ ns) = (k ≡ m) ⊎ Mem m ns

abbrev pub Among : ℕ → List Share → Type 0
Among i [] = ⊥
Among i (x ∷ xs) = (x.number ≡ i) ⊎ Among i xs

remove : ℕ → List ℕ → List ℕ
remove m [] = []
remove m (k ∷ ns) = cond (eqb k m) ns (k ∷ remove m ns)

length_remove : (m : ℕ) (ns : List ℕ) → Mem m ns → suc (length (remove m ns)) ≡ length ns
unfolding remove
length_remove m [] h = absurd h
length_remove m (k ∷ ns) h = dite (ℕ_discrete k m)
    (λ is. ap (λ b. suc (length (cond b ns (k ∷ remove m ns)))) (eq-eqb k m is))
    (λ other. ap (λ b. suc (length (cond b ns (k ∷ remove m ns)))) (ne_eqb k m other) ∙ ap suc (length_remove m ns (⊎_elim (λ is. absurd (other is)) (λ t. t) h)))

mem_remove : (u m : ℕ) (ns : List ℕ) → u ≢ m → Mem u ns → Mem u (remove m ns)
unfolding remove
mem_remove u m [] other h = h
mem_remove u m (k ∷ ns) other h = dite (ℕ_discrete k m)
    (λ is. subst (λ b. Mem u (cond b ns (k ∷ remove m ns))) (sym (eq-eqb k m is)) (⊎_elim (λ e. absurd (other (sym e ∙ is))) (λ t. t) h))
    (λ not. subst (λ b. Mem u (cond b ns (k ∷ remove m ns))) (sym (ne_eqb k m not)) (⊎_elim inl (λ t. inr (mem_remove u m ns other t)) h))

left_in : (xs : List Share) (m : ℕ) (ns : List ℕ) → AllByRecursion (λ (y : Share). y.number ≢ m) xs → AllByRecursion (λ (y : Share). Mem y.number ns) xs → AllByRecursion (λ (y : Share). Mem y.number (remove m ns)) xs
left_in [] m ns a b = tt
left_in (x ∷ xs) m ns a b = (mem_remove x.number m ns a.0 b.0, left_in xs m ns a.1 b.1)

no_more : (xs : List Share) (ns : List ℕ) → Apart xs → AllByRecursion (λ (y : Share). Mem y.number ns) xs → length xs ≤ length ns
no_more [] ns a b = omega arith
no_more (x ∷ xs) ns a b = let rest = no_more xs (remove x.number ns) a.1 (left_in xs x.number ns a.0 b.1) in let one = length_remove x.number ns b.0 in omega arith

upto : ℕ → List ℕ
upto zero = []
upto (suc n) = n ∷ upto n

length_upto : (n : ℕ) → length (upto n) ≡ n
unfolding upto
length_upto zero = refl
length_upto (suc n) = ap suc (length_upto n)

mem_upto : (u n : ℕ) → u < n → Mem u (upto n)
unfolding upto
mem_upto u zero lt = absurd (omega arith)
mem_upto u (suc n) lt = dite (ℕ_discrete n u) inl (λ other. inr (mem_upto u n (omega arith)))

all_in : (n : ℕ) (xs : List Share) → AllByRecursion (λ (y : Share). y.number < n) xs → AllByRecursion (λ (y : Share). Mem y.number (upto n)) xs
all_in n [] a = tt
all_in n (x ∷ xs) a = (mem_upto x.number n a.0, all_in n xs a.1)

among : (i : ℕ) (xs : List Share) → Among i xs ⊎ AllByRecursion (λ (y : Share). y.number ≢ i) xs
among i [] = inr tt
among i (x ∷ xs) = dite (ℕ_discrete x.number i) (λ is. inl (inl is)) (λ other. ⊎_elim (λ t. inl (inr t)) (λ t. inr (other, t)) (among i xs))

pub all_there : (n : ℕ) (xs : List Share) → Apart xs → AllByRecursion (λ (y : Share). y.number < n) xs → n ≤ length xs → (i : ℕ) → i < n → Among i xs
all_there n xs apart below long i lt = ⊎_elim (λ t. t)
    (λ none. let few = no_more xs (remove i (upto n)) apart (left_in xs i (upto n) none (all_in n xs below)) in
    let one = length_remove i (upto n) (mem_upto i n lt) in let whole = length_upto n in absurd (omega arith))
    (among i xs)
