-- The spaces at the front of a line tell nothing of its opening.
use Rattle.std.proofs.Common.{◌≡◌, ℕ, suc, ◌+◌, ◌-◌, Bool, true, false, not, cond, List, [], ◌∷◌, length, drop, Option, refl, sym, ◌∙◌, ap, arith}
use Rattle.std.proofs.lemmas.List.{length-drop}
use Rattle.std.proofs.lemmas.List.Sums.{prefix_len-le-length}
use Rattle.std.specs.List.{onto_first, position_or_len}
use Rattle.text_bytes.specs.Lines.{is_space, words_of}
use Rattle.trace_fields.specs.Opening.{opening_from}
use Rattle.trace_fields.specs.Words.{without_spaces}
use Rattle.trace_fields.specs.declared.opening.CpuWord.{CpuWord}

abbrev spaces_in : List ℕ → ℕ
spaces_in xs = position_or_len (λ b. not (is_space b)) xs

spaces_pass : (n : ℕ) (c : Option CpuWord) (xs : List ℕ) → opening_from (n + spaces_in xs) c (words_of (drop (spaces_in xs) xs)) ≡ opening_from n c (words_of xs)
spaces_pass n c [] = (let e : n + 0 ≡ n = omega arith in ap (λ (k : ℕ). opening_from k c (words_of [])) e)
spaces_pass n c (x ∷ xs) =
    let go : (b : Bool) → is_space x ≡ b → opening_from (n + spaces_in (x ∷ xs)) c (words_of (drop (spaces_in (x ∷ xs)) (x ∷ xs))) ≡ opening_from n c (words_of (x ∷ xs)) =
    λ (b : Bool). elim b as (λ b. is_space x ≡ b → opening_from (n + spaces_in (x ∷ xs)) c (words_of (drop (spaces_in (x ∷ xs)) (x ∷ xs))) ≡ opening_from n c (words_of (x ∷ xs))) [
      | true ↦ λ e. (let one : spaces_in (x ∷ xs) ≡ 1 + spaces_in xs = ap (λ (t : Bool). cond (not (not t)) (1 + spaces_in xs) 0) e in
          let next : spaces_in (x ∷ xs) ≡ suc (spaces_in xs) = omega arith in
          let words : words_of (x ∷ xs) ≡ [] ∷ words_of xs = ap (λ (t : Bool). cond t ([] ∷ words_of xs) (onto_first x (words_of xs))) e in
          let far : n + suc (spaces_in xs) ≡ n + 0 + 1 + spaces_in xs = omega arith in
          ap (λ (k : ℕ). opening_from (n + k) c (words_of (drop k (x ∷ xs)))) next
          ∙ ap (λ (k : ℕ). opening_from k c (words_of (drop (spaces_in xs) xs))) far
          ∙ spaces_pass (n + 0 + 1) c xs
          ∙ sym (ap (λ (ws : List (List ℕ)). opening_from n c ws) words))
      | false ↦ λ e. (let none : spaces_in (x ∷ xs) ≡ 0 = ap (λ (t : Bool). cond (not (not t)) (1 + spaces_in xs) 0) e in
          let same : n + 0 ≡ n = omega arith in
          ap (λ (k : ℕ). opening_from (n + k) c (words_of (drop k (x ∷ xs)))) none
          ∙ ap (λ (k : ℕ). opening_from k c (words_of (x ∷ xs))) same)
    ] in
    go (is_space x) refl

spaces_fit : (xs : List ℕ) → length xs - length (without_spaces xs) ≡ spaces_in xs
spaces_fit xs = (let k = length-drop (spaces_in xs) xs in let h = prefix_len-le-length (λ b. not (not (is_space b))) xs in omega (arith, k, h))

-- the opening is that of the text behind them
pub behind_spaces : (xs : List ℕ) (n : ℕ) (c : Option CpuWord) → opening_from (n + (length xs - length (without_spaces xs))) c (words_of (without_spaces xs)) ≡ opening_from n c (words_of xs)
behind_spaces xs n c = ap (λ (k : ℕ). opening_from (n + k) c (words_of (without_spaces xs))) (spaces_fit xs) ∙ spaces_pass n c xs

pub spaces_len : (xs : List ℕ) → length xs - length (without_spaces xs) + length (without_spaces xs) ≡ length xs
spaces_len xs = (let k = length-drop (spaces_in xs) xs in omega (arith, k))
