-- The words of a line.
use Rattle.std.proofs.Common.{◌≡◌, ℕ, suc, ◌+◌, ◌-◌, ◌<◌, ◌≤◌, Bool, true, false, not, ◌&&◌, nat_eq, cond, List, [], ◌∷◌, length, take, drop, Option, Some, None, refl, ◌∙◌, ap, arith, subst}
use Rattle.std.proofs.lemmas.List.{take_rest, length-drop}
use Rattle.std.specs.List.{position, position_or_len, starts_with}
use Rattle.trace_fields.specs.Words.{place_from}
use Rattle.text_bytes.specs.Lines.{is_space}
use Rattle.text_bytes.proofs.Splits.{some_at}

-- no space, no key
pub place_none : (n : ℕ) (key xs : List ℕ) → length xs ≤ position_or_len is_space xs → place_from n key xs ≡ None
place_none n key [] h = refl
place_none n key (x ∷ xs) h =
    let go : (b : Bool) → is_space x ≡ b → cond (b && starts_with nat_eq xs key) (Some n) (place_from (n + 1) key xs) ≡ None =
    λ (b : Bool). elim b as (λ b. is_space x ≡ b → cond (b && starts_with nat_eq xs key) (Some n) (place_from (n + 1) key xs) ≡ None) [
      | true ↦ λ e. absurd (let k : length (x ∷ xs) ≤ 0 = subst (λ (t : Bool). length (x ∷ xs) ≤ cond (not t) (1 + position_or_len is_space xs) 0) e h in omega arith)
      | false ↦ λ e. place_none (n + 1) key xs (let k : length (x ∷ xs) ≤ 1 + position_or_len is_space xs = subst (λ (t : Bool). length (x ∷ xs) ≤ cond (not t) (1 + position_or_len is_space xs) 0) e h in omega arith)
    ] in
    go (is_space x) refl

-- the key behind the first space, or behind a later one
pub place_some : (n : ℕ) (key xs : List ℕ) (i m k : ℕ) → i ≡ position_or_len is_space xs → i < length xs → m ≡ n + i → k ≡ n + i + 1 → place_from n key xs ≡ cond (starts_with nat_eq (drop (suc i) xs) key) (Some m) (place_from k key (drop (suc i) xs))
place_some n key [] i m k at lt em ek = absurd (omega arith)
place_some n key (x ∷ xs) i m k at lt em ek =
    let go : (b : Bool) → is_space x ≡ b → cond (b && starts_with nat_eq xs key) (Some n) (place_from (n + 1) key xs) ≡ cond (starts_with nat_eq (drop (suc i) (x ∷ xs)) key) (Some m) (place_from k key (drop (suc i) (x ∷ xs))) =
    λ (b : Bool). elim b as (λ b. is_space x ≡ b → cond (b && starts_with nat_eq xs key) (Some n) (place_from (n + 1) key xs) ≡ cond (starts_with nat_eq (drop (suc i) (x ∷ xs)) key) (Some m) (place_from k key (drop (suc i) (x ∷ xs)))) [
      | true ↦ λ e. (let here : i ≡ 0 = subst (λ (t : Bool). i ≡ cond (not t) (1 + position_or_len is_space xs) 0) e at in
          let a : m ≡ n = omega arith in let b : k ≡ n + 1 = omega arith in rw (here, a, b) refl)
      | false ↦ λ e. (let there : i ≡ 1 + position_or_len is_space xs = subst (λ (t : Bool). i ≡ cond (not t) (1 + position_or_len is_space xs) 0) e at in
          let next : i ≡ suc (position_or_len is_space xs) = omega arith in
          rw next (place_some (n + 1) key xs (position_or_len is_space xs) m k refl (omega arith) (omega arith) (omega arith)))
    ] in
    go (is_space x) refl

-- one step of a search for a key
pub place_step : (n : ℕ) (key xs : List ℕ) (i : ℕ) (b : Bool) → position is_space xs ≡ Some i → b ≡ starts_with nat_eq (take (length xs - (i + 1)) (drop (i + 1) xs)) key → place_from n key xs ≡ cond b (Some (n + i)) (place_from (n + (i + 1)) key (take (length xs - (i + 1)) (drop (i + 1) xs)))
place_step n key xs i b at is =
    let here = some_at is_space xs i at in
    let same : suc i ≡ i + 1 = omega arith in
    let step : place_from n key xs ≡ cond (starts_with nat_eq (drop (i + 1) xs) key) (Some (n + i)) (place_from (n + (i + 1)) key (drop (i + 1) xs)) =
    subst (λ (j : ℕ). place_from n key xs ≡ cond (starts_with nat_eq (drop j xs) key) (Some (n + i)) (place_from (n + (i + 1)) key (drop j xs))) same (place_some n key xs i (n + i) (n + (i + 1)) here.1 here.0 refl (omega arith)) in
    rw (is, take_rest xs (i + 1)) step

pub left_len : (xs : List ℕ) (k : ℕ) → length (take (length xs - k) (drop k xs)) ≡ length xs - k
left_len xs k = ap length (take_rest xs k) ∙ length-drop k xs

-- what is left of a text behind its first i bytes and one more
pub left_sum : (n i t : ℕ) (xs : List ℕ) → i < length xs → n + length xs ≡ t → n + (i + 1) + length (take (length xs - (i + 1)) (drop (i + 1) xs)) ≡ t
left_sum n i t xs lt all = (let k = left_len xs (i + 1) in omega arith)

pub none_of : (o : Option ℕ) → ((x : ℕ) → o ≡ Some x → ⊥) → o ≡ None
none_of None h = refl
none_of (Some x) h = absurd (h x refl)
