-- Marks of slots in four words.
use Rattle.std.proofs.Common.{◌≡◌, ℕ, ◌+◌, ◌-◌, ◌*◌, ◌/◌, ◌%◌, ◌^◌, ◌<◌, ◌≤◌, ◌⊎◌, inl, inr, refl, ap, ◌∙◌, sym, arith, List, length, set, get_or, get_or-set_same, get_or-set_other, bit_and, bit_or, w64}
use Rattle.std.specs.Int.{bit_at, trailing_zeros}
use Rattle.std.proofs.Math.Nat.{mod-lt, mod-add-div, div-le_self}
use Rattle.std.proofs.Math.Pow.{pow_pos}
use Rattle.std.proofs.lemmas.Nat.Bits.{bit_at_cat_high, bit_at_above, bit_at-trailing_zeros, bit_at_set_same, bit_at_set_other, bit_at_clear_same, bit_at_clear_other, bit_at-zero}
use Rattle.grub_wheel.specs.inside.Used.{mark_of}
use Rattle.std.proofs.lemmas.Bool.{cases_lt, cases_eq}

shifted : (n k j : ℕ) → bit_at n (k + j) ≡ bit_at (n / 2 ^ k) j
shifted n k j =
    let e : n / 2 ^ k * 2 ^ k + n % 2 ^ k ≡ n = split (n / 2 ^ k) (2 ^ k) (n % 2 ^ k) n (mod-add-div n (2 ^ k)) in
    let d : (k + j) - k ≡ j = omega arith in
    ap (λ (x : ℕ). bit_at x (k + j)) (sym e) ∙ bit_at_cat_high (n / 2 ^ k) k (n % 2 ^ k) (k + j) (mod-lt n (pow_pos k)) (omega arith) ∙ ap (bit_at (n / 2 ^ k)) d
  where
    split : (q p r n : ℕ) → r + p * q ≡ n → q * p + r ≡ n
    split q p r n e = grind (arith)

marked : (us : List ℕ) (s w i : ℕ) → s / 64 ≡ w → s % 64 ≡ i → mark_of us s ≡ bit_at (get_or us w 0) i
marked us s w i d e = ap (λ (x : ℕ). bit_at (get_or us x 0) (s % 64)) d ∙ ap (bit_at (get_or us w 0)) e

-- ---- a word behind a slot

pub rest_zero : (us : List ℕ) (slot r : ℕ) → get_or us (slot / 64) 0 / 2 ^ (slot % 64) ≡ 0 → slot ≤ r → r < (slot / 64 + 1) * 64 → mark_of us r ≡ 0
rest_zero us slot r z lo hi =
    let d : r / 64 ≡ slot / 64 = omega arith in
    let e : r % 64 ≡ slot % 64 + (r - slot) = omega arith in
    marked us r (slot / 64) (slot % 64 + (r - slot)) d e ∙ shifted (get_or us (slot / 64) 0) (slot % 64) (r - slot) ∙ ap (λ (x : ℕ). bit_at x (r - slot)) z ∙ bit_at-zero (r - slot)

pub rest_high : (n slot : ℕ) → n < 18446744073709551616 → (n / 2 ^ (slot % 64) ≡ 0 → ⊥) → slot % 64 + trailing_zeros w64 (n / 2 ^ (slot % 64)) < 64
rest_high n slot fits ne = go (cases_lt (slot % 64 + trailing_zeros w64 (n / 2 ^ (slot % 64))) 64)
  where
    small : n / 2 ^ (slot % 64) < 18446744073709551616
    small = let l : n / 2 ^ (slot % 64) ≤ n = div-le_self n (2 ^ (slot % 64)) in omega arith

    go : (slot % 64 + trailing_zeros w64 (n / 2 ^ (slot % 64)) < 64) ⊎ (64 ≤ slot % 64 + trailing_zeros w64 (n / 2 ^ (slot % 64))) → slot % 64 + trailing_zeros w64 (n / 2 ^ (slot % 64)) < 64
    go (inl l) = l
    go (inr l) =
        let b = bit_at-trailing_zeros w64 (n / 2 ^ (slot % 64)) (omega (arith, ne)) small in
        let o : bit_at n (slot % 64 + trailing_zeros w64 (n / 2 ^ (slot % 64))) ≡ 1 = shifted n (slot % 64) (trailing_zeros w64 (n / 2 ^ (slot % 64))) ∙ b.1 in
        let z : bit_at n (slot % 64 + trailing_zeros w64 (n / 2 ^ (slot % 64))) ≡ 0 = bit_at_above n 64 (slot % 64 + trailing_zeros w64 (n / 2 ^ (slot % 64))) fits l in
        absurd (let q : 0 ≡ 1 = sym z ∙ o in omega (arith, q))

pub rest_none : (us : List ℕ) (slot r : ℕ) → get_or us (slot / 64) 0 < 18446744073709551616 → (get_or us (slot / 64) 0 / 2 ^ (slot % 64) ≡ 0 → ⊥) → slot ≤ r
    → r < slot + trailing_zeros w64 (get_or us (slot / 64) 0 / 2 ^ (slot % 64)) → mark_of us r ≡ 0
rest_none us slot r fits ne lo hi =
    let h = rest_high (get_or us (slot / 64) 0) slot fits ne in
    let d : r / 64 ≡ slot / 64 = omega arith in
    let e : r % 64 ≡ slot % 64 + (r - slot) = omega arith in
    let l : get_or us (slot / 64) 0 / 2 ^ (slot % 64) ≤ get_or us (slot / 64) 0 = div-le_self (get_or us (slot / 64) 0) (2 ^ (slot % 64)) in
    let b = bit_at-trailing_zeros w64 (get_or us (slot / 64) 0 / 2 ^ (slot % 64)) (omega (arith, ne)) (omega arith) in
    marked us r (slot / 64) (slot % 64 + (r - slot)) d e ∙ shifted (get_or us (slot / 64) 0) (slot % 64) (r - slot) ∙ b.2 (r - slot) (omega arith)

pub rest_used : (us : List ℕ) (slot : ℕ) → get_or us (slot / 64) 0 < 18446744073709551616 → (get_or us (slot / 64) 0 / 2 ^ (slot % 64) ≡ 0 → ⊥)
    → mark_of us (slot + trailing_zeros w64 (get_or us (slot / 64) 0 / 2 ^ (slot % 64))) ≡ 1
rest_used us slot fits ne =
    let b = bit_at-trailing_zeros w64 (get_or us (slot / 64) 0 / 2 ^ (slot % 64)) (omega (arith, ne)) small in
    go (trailing_zeros w64 (get_or us (slot / 64) 0 / 2 ^ (slot % 64))) (rest_high (get_or us (slot / 64) 0) slot fits ne) b.1
  where
    small : get_or us (slot / 64) 0 / 2 ^ (slot % 64) < 18446744073709551616
    small = let l : get_or us (slot / 64) 0 / 2 ^ (slot % 64) ≤ get_or us (slot / 64) 0 = div-le_self (get_or us (slot / 64) 0) (2 ^ (slot % 64)) in omega arith

    go : (t : ℕ) → slot % 64 + t < 64 → bit_at (get_or us (slot / 64) 0 / 2 ^ (slot % 64)) t ≡ 1 → mark_of us (slot + t) ≡ 1
    go t h o =
        let d : (slot + t) / 64 ≡ slot / 64 = omega arith in
        let e : (slot + t) % 64 ≡ slot % 64 + t = omega arith in
        marked us (slot + t) (slot / 64) (slot % 64 + t) d e ∙ shifted (get_or us (slot / 64) 0) (slot % 64) t ∙ o

-- ---- a later word

pub word_used : (us : List ℕ) (word : ℕ) → get_or us word 0 < 18446744073709551616 → (get_or us word 0 ≡ 0 → ⊥) → mark_of us (word * 64 + trailing_zeros w64 (get_or us word 0)) ≡ 1
word_used us word fits ne =
    let b = bit_at-trailing_zeros w64 (get_or us word 0) (omega (arith, ne)) fits in
    go (trailing_zeros w64 (get_or us word 0)) b.0 b.1
  where
    go : (t : ℕ) → t < 64 → bit_at (get_or us word 0) t ≡ 1 → mark_of us (word * 64 + t) ≡ 1
    go t h o =
        let d : (word * 64 + t) / 64 ≡ word = omega arith in
        let e : (word * 64 + t) % 64 ≡ t = omega arith in
        marked us (word * 64 + t) word t d e ∙ o

pub word_none : (us : List ℕ) (slot word r : ℕ) → get_or us word 0 < 18446744073709551616 → (get_or us word 0 ≡ 0 → ⊥) → ((q : ℕ) → slot ≤ q → q < word * 64 → mark_of us q ≡ 0) → slot ≤ r
    → r < word * 64 + trailing_zeros w64 (get_or us word 0) → mark_of us r ≡ 0
word_none us slot word r fits ne none lo hi = go (cases_lt r (word * 64))
  where
    go : (r < word * 64) ⊎ (word * 64 ≤ r) → mark_of us r ≡ 0
    go (inl l) = none r lo l
    go (inr l) =
        let b = bit_at-trailing_zeros w64 (get_or us word 0) (omega (arith, ne)) fits in
        let t = b.0 in
        let d : r / 64 ≡ word = omega arith in
        let e : r % 64 ≡ r - word * 64 = omega arith in
        marked us r word (r - word * 64) d e ∙ b.2 (r - word * 64) (omega arith)

-- ---- one mark

module _ (us : List ℕ) (s : ℕ) (len : length us ≡ 4) (low : s < 256) where
  same_word : s / 64 < length us
  same_word = omega arith

  changed : (x r : ℕ) → (r ≡ s → ⊥) → ((r % 64 ≡ s % 64 → ⊥) → bit_at x (r % 64) ≡ bit_at (get_or us (s / 64) 0) (r % 64)) → mark_of (set us (s / 64) x) r ≡ mark_of us r
  changed x r ne same = go (cases_eq (r / 64) (s / 64))
    where
      go : (r / 64 ≡ s / 64) ⊎ (r / 64 ≡ s / 64 → ⊥) → mark_of (set us (s / 64) x) r ≡ mark_of us r
      go (inl e) =
          marked (set us (s / 64) x) r (s / 64) (r % 64) e refl ∙ ap (λ (y : ℕ). bit_at y (r % 64)) (get_or-set_same us (s / 64) x 0 same_word)
          ∙ same (λ f. ne (omega arith)) ∙ sym (marked us r (s / 64) (r % 64) e refl)
      go (inr d) = ap (λ (y : ℕ). bit_at y (r % 64)) (get_or-set_other us (s / 64) (r / 64) x 0 d)

  here : (x : ℕ) → mark_of (set us (s / 64) x) s ≡ bit_at x (s % 64)
  here x = ap (λ (y : ℕ). bit_at y (s % 64)) (get_or-set_same us (s / 64) x 0 same_word)

  k_low : s % 64 < 64
  k_low = omega arith

  pub set_here : mark_of (set us (s / 64) (bit_or (get_or us (s / 64) 0) (1 * 2 ^ (s % 64) % 18446744073709551616))) s ≡ 1
  set_here = here (bit_or (get_or us (s / 64) 0) (1 * 2 ^ (s % 64) % 18446744073709551616)) ∙ bit_at_set_same w64 (get_or us (s / 64) 0) (s % 64) k_low

  pub set_others : (r : ℕ) → (r ≡ s → ⊥) → mark_of (set us (s / 64) (bit_or (get_or us (s / 64) 0) (1 * 2 ^ (s % 64) % 18446744073709551616))) r ≡ mark_of us r
  set_others r ne = changed (bit_or (get_or us (s / 64) 0) (1 * 2 ^ (s % 64) % 18446744073709551616)) r ne (λ d. bit_at_set_other w64 (get_or us (s / 64) 0) (s % 64) k_low (r % 64) d)

  pub clear_here : mark_of (set us (s / 64) (bit_and (get_or us (s / 64) 0) (18446744073709551615 - 1 * 2 ^ (s % 64) % 18446744073709551616))) s ≡ 0
  clear_here = here (bit_and (get_or us (s / 64) 0) (18446744073709551615 - 1 * 2 ^ (s % 64) % 18446744073709551616)) ∙ bit_at_clear_same w64 (get_or us (s / 64) 0) (s % 64) k_low

  pub clear_others : (r : ℕ) → (r ≡ s → ⊥) → mark_of (set us (s / 64) (bit_and (get_or us (s / 64) 0) (18446744073709551615 - 1 * 2 ^ (s % 64) % 18446744073709551616))) r ≡ mark_of us r
  clear_others r ne = changed (bit_and (get_or us (s / 64) 0) (18446744073709551615 - 1 * 2 ^ (s % 64) % 18446744073709551616)) r ne (λ d. bit_at_clear_other w64 (get_or us (s / 64) 0) (s % 64) k_low (r % 64) (omega arith) d)
