-- The parts of a list, split at each element that passes.
use Rattle.std.proofs.Common.{◌≡◌, ℕ, ◌+◌, ◌-◌, ◌<◌, ◌≤◌, Bool, true, false, not, cond, ltb, List, [], ◌∷◌, length, take, drop, Option, Some, None, refl, sym, ap, arith, subst}
use Rattle.std.proofs.lemmas.List.Elements.{All-from_get_or}
use Rattle.std.proofs.lemmas.List.Sums.{fails_before_first, prefix_len-le-length, position_or_len_is}
use Rattle.std.proofs.lemmas.List.{take_rest}
use Rattle.std.specs.List.{slice_split, onto_first, position, position_or_len}
use Rattle.std.proofs.lemmas.List.Splits.{slice_split_first, slice_split_none}
use Rattle.std.proofs.lemmas.Bool.{ltb-true, ltb-false, false_from_ne_true}
use Rattle.std.proofs.lemmas.Grind.{common_steps}
use Rattle.std.proofs.lemmas.Option.{cond_some}
use Rattle.memchr.specs.Find.{IsFirstByte, is_byte}

-- a list has a first part
pub has_part : {X : Type 0} (p : X → Bool) (xs : List X) → (y : List X) × (ys : List (List X)) × (slice_split p xs ≡ y ∷ ys)
has_part p [] = ([], [], refl)
has_part {X} p (x ∷ xs) =
    let ih = has_part p xs in
    elim (p x) as (λ b. (y : List X) × (ys : List (List X)) × (cond b ([] ∷ slice_split p xs) (onto_first x (slice_split p xs)) ≡ y ∷ ys)) [
      | true ↦ ([], slice_split p xs, refl)
      | false ↦ (x ∷ ih.0, ih.1, ap (onto_first x) ih.2)
    ]

-- nowhere, and at the first place, an element passes
no_place : (b : Bool) (i : ℕ) → cond b (Some i) None ≡ None → b ≡ false
no_place true i e = absurd cc
no_place false i e = refl

pub none_at : {X : Type 0} (p : X → Bool) (xs : List X) → position p xs ≡ None → length xs ≡ position_or_len p xs
none_at p xs e =
    let h = ltb-false _ _ (no_place (ltb (position_or_len p xs) (length xs)) (position_or_len p xs) e) in
    let k : position_or_len p xs ≤ length xs = prefix_len-le-length (λ x. not (p x)) xs in
    omega (arith, h)

pub some_at : {X : Type 0} (p : X → Bool) (xs : List X) (i : ℕ) → position p xs ≡ Some i → (i < length xs) × (i ≡ position_or_len p xs)
some_at p xs i e =
    let k = cond_some (ltb (position_or_len p xs) (length xs)) (position_or_len p xs) i e in
    let lt : position_or_len p xs < length xs = ltb-true _ _ k.0 in
    let same : position_or_len p xs ≡ i = k.1 in
    (omega arith, sym same)

-- the parts, where the first element that passes is known
pub split_none : (p : ℕ → Bool) (xs : List ℕ) → position p xs ≡ None → slice_split p xs ≡ xs ∷ []
split_none p xs e =
    let past = none_at p xs e in
    slice_split_none p xs (All-from_get_or (λ x. p x ≡ false) xs 0 (λ i below. fails_before_first p xs i 0 (omega (arith, past, below))))

pub split_some : (p : ℕ → Bool) (xs : List ℕ) (i : ℕ) → position p xs ≡ Some i → slice_split p xs ≡ take i xs ∷ slice_split p (take (length xs - (i + 1)) (drop (i + 1) xs))
split_some p xs i e =
    let at = some_at p xs i e in
    let first : slice_split p xs ≡ take i xs ∷ slice_split p (drop (i + 1) xs) =
    subst (λ (j : ℕ). slice_split p xs ≡ take j xs ∷ slice_split p (drop (j + 1) xs)) (sym at.1) (slice_split_first p xs 0 (subst (λ (j : ℕ). j < length xs) at.1 at.0)) in
    rw (take_rest xs (i + 1)) first

-- the first byte of a kind, as `memchr` finds it
pub first_byte : (n : ℕ) (hay : List ℕ) (r : Option ℕ) → IsFirstByte (is_byte n) hay r → r ≡ position (is_byte n) hay
first_byte n hay None none =
    let at : position_or_len (is_byte n) hay ≡ length hay = position_or_len_is (is_byte n) hay (length hay) 0 (omega arith) (λ k lt. false_from_ne_true _ (none k (omega arith) lt)) (λ lt. absurd (omega (arith, lt))) in
    grind (arith, common_steps, at)
first_byte n hay (Some k) (found, passes) =
    let at : position_or_len (is_byte n) hay ≡ k = position_or_len_is (is_byte n) hay k 0 (omega (arith, found.high)) (λ i lt. false_from_ne_true _ (found.before i (omega arith) lt)) (λ lt. passes) in
    grind (arith, common_steps, at, found.high)
