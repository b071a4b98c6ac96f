-- A line that does not begin with # and has no L tells of no lost events.
use Rattle.std.proofs.Common.{◌≡◌, ℕ, ◌+◌, ◌≤◌, Bool, true, false, not, ◌&&◌, cond, List, [], ◌∷◌, length, codes, nat_eq, None, refl, arith, subst}
use Rattle.std.specs.List.{list_all, onto_first, position, position_or_len, slice_split, starts_with}
use Rattle.std.specs.Str.{bytes_eq}
use Rattle.std.proofs.lemmas.Bool.{eqb-true, false_from_ne_true}
use Rattle.text_bytes.specs.Lines.{is_space, words_of}
use Rattle.text_bytes.proofs.Splits.{has_part, none_at}
use Rattle.memchr.specs.Find.{is_byte}
use Rattle.trace_fields.specs.Head.{is_comment, is_lost, say_lost}

abbrev no_l : List ℕ → Bool
no_l [] = true
no_l (x ∷ xs) = not (is_byte 76 x) && no_l xs

both : (a b : Bool) → a ≡ true → b ≡ true → (a && b) ≡ true
both a b p q = rw (p, q) refl

first : (a b : Bool) → (a && b) ≡ true → a ≡ true
first true b e = refl
first false b e = e

second : (a b : Bool) → (a && b) ≡ true → b ≡ true
second true b e = e
second false b e = absurd cc

no_l_all : (xs : List ℕ) → length xs ≤ position_or_len (is_byte 76) xs → no_l xs ≡ true
no_l_all [] h = refl
no_l_all (x ∷ xs) h =
    let go : (b : Bool) → is_byte 76 x ≡ b → (not b && no_l xs) ≡ true =
    λ (b : Bool). elim b as (λ b. is_byte 76 x ≡ b → (not b && no_l xs) ≡ true) [
      | true ↦ λ e. absurd (let k : length (x ∷ xs) ≤ 0 = subst (λ (t : Bool). length (x ∷ xs) ≤ cond (not t) (1 + position_or_len (is_byte 76) xs) 0) e h in omega arith)
      | false ↦ λ e. no_l_all xs (let k : length (x ∷ xs) ≤ 1 + position_or_len (is_byte 76) xs = subst (λ (t : Bool). length (x ∷ xs) ≤ cond (not t) (1 + position_or_len (is_byte 76) xs) 0) e h in omega arith)
    ] in
    go (is_byte 76 x) refl

-- what stands at the front of a word without an L has none
front_no_l : (n xs : List ℕ) → starts_with nat_eq xs n ≡ true → no_l xs ≡ true → no_l n ≡ true
front_no_l [] xs e h = refl
front_no_l (c ∷ cs) [] e h = absurd cc
front_no_l (c ∷ cs) (x ∷ xs) e h =
    let same : c ≡ x = eqb-true c x (first (nat_eq c x) (starts_with nat_eq xs cs) e) in
    both (not (is_byte 76 c)) (no_l cs) (rw same (first (not (is_byte 76 x)) (no_l xs) h)) (front_no_l cs xs (second (nat_eq c x) (starts_with nat_eq xs cs) e) (second (not (is_byte 76 x)) (no_l xs) h))

same_no_l : (xs n : List ℕ) → bytes_eq xs n ≡ true → no_l xs ≡ true → no_l n ≡ true
same_no_l [] [] e h = refl
same_no_l [] (c ∷ cs) e h = absurd cc
same_no_l (x ∷ xs) [] e h = absurd cc
same_no_l (x ∷ xs) (c ∷ cs) e h =
    let same : x ≡ c = eqb-true x c (first (nat_eq x c) (bytes_eq xs cs) e) in
    both (not (is_byte 76 c)) (no_l cs) (rw (← same) (first (not (is_byte 76 x)) (no_l xs) h)) (same_no_l xs cs (second (nat_eq x c) (bytes_eq xs cs) e) (second (not (is_byte 76 x)) (no_l xs) h))

false_true : false ≡ true → ⊥
false_true e = cc

no_record : (w : List ℕ) → no_l w ≡ true → starts_with nat_eq w (codes "PERF_RECORD_LOST") ≡ false
no_record w h = false_from_ne_true (starts_with nat_eq w (codes "PERF_RECORD_LOST")) (λ e. false_true (front_no_l (codes "PERF_RECORD_LOST") w e h))

no_opening : (w : List ℕ) → no_l w ≡ true → bytes_eq w (codes "[LOST") ≡ false
no_opening w h = false_from_ne_true (bytes_eq w (codes "[LOST")) (λ e. false_true (same_no_l w (codes "[LOST") e h))

say_none : (ws : List (List ℕ)) → list_all no_l ws ≡ true → say_lost false ws ≡ false
say_none [] h = refl
say_none (w ∷ ws) h =
    rw (no_record w (first (no_l w) (list_all no_l ws) h), no_opening w (first (no_l w) (list_all no_l ws) h)) (say_none ws (second (no_l w) (list_all no_l ws) h))

words_no_l : (xs : List ℕ) → no_l xs ≡ true → list_all no_l (words_of xs) ≡ true
words_no_l [] h = refl
words_no_l (x ∷ xs) h =
    let ih : list_all no_l (words_of xs) ≡ true = words_no_l xs (second (not (is_byte 76 x)) (no_l xs) h) in
    let k = has_part is_space xs in
    let parts : list_all no_l (k.0 ∷ k.1) ≡ true = subst (λ (ws : List (List ℕ)). list_all no_l ws ≡ true) k.2 ih in
    elim (is_space x) as (λ b. list_all no_l (cond b ([] ∷ slice_split is_space xs) (onto_first x (slice_split is_space xs))) ≡ true) [
      | true ↦ ih
      | false ↦ rw k.2 (both (no_l (x ∷ k.0)) (list_all no_l k.1) (both (not (is_byte 76 x)) (no_l k.0) (first (not (is_byte 76 x)) (no_l xs) h) (first (no_l k.0) (list_all no_l k.1) parts)) (second (no_l k.0) (list_all no_l k.1) parts))
    ]

pub nothing_lost : (line : List ℕ) → is_comment line ≡ false → position (is_byte 76) line ≡ None → is_lost line ≡ false
nothing_lost line plain none =
    let past : length line ≡ position_or_len (is_byte 76) line = none_at (is_byte 76) line none in
    rw (plain, say_none (words_of line) (words_no_l line (no_l_all line (omega arith)))) refl
