-- How often a budget is recharged, and when its deadline stays in range.
use Rattle.std.proofs.Common.{◌≡◌, ℕ, ◌+◌, ◌-◌, ◌*◌, ◌/◌, ◌%◌, ◌^◌, ◌<◌, ◌≤◌, true, false, Some, None, refl, arith, nat_lt}
use Rattle.std.proofs.Math.Nat.{add-div_right, le-div_iff_mul-le, div-add-mod}
use Rattle.std.proofs.lemmas.Bool.{lt-ltb, le-ltb}
use Rattle.grub_book.specs.Bandwidth.{Reservation}
use Rattle.grub_book.specs.Server.{Fits, recharges_of, depleted_of}
use Rattle.grub_book.specs.declared.server.Server.{Server}

-- past the budget, the count is one more than how often the runtime goes into what is missing
pub recharges_past : (q dq n : ℕ) → 1 ≤ q → q ≤ n → q ≤ dq → (dq + (n - q)) / n ≡ (dq - q) / n + 1
recharges_past q dq n some most past =
    let e : dq + (n - q) ≡ dq - q + n = omega arith in
    rw e (add-div_right (dq - q) (omega arith))

-- a count of periods stays in range exactly where it is at most the quotient
pub room_left : (k d p : ℕ) → 1 ≤ p → k ≤ (4294967295 - d) / p → d < 2 ^ 32 → d + k * p < 2 ^ 32
room_left k d p some le small =
    let fits : k * p ≤ 4294967295 - d = (le-div_iff_mul-le {k = p} {x = k} {y = 4294967295 - d} (omega arith)).0 le in omega (arith, fits)

pub no_room : (k d p : ℕ) → 1 ≤ p → (4294967295 - d) / p < k → d < 2 ^ 32 → 2 ^ 32 ≤ d + k * p
no_room k d p some lt small =
    let above : k * p ≤ 4294967295 - d → k ≤ (4294967295 - d) / p = (le-div_iff_mul-le {k = p} {x = k} {y = 4294967295 - d} (omega arith)).1 in grind (arith, above)

-- the budget that is left after the recharges
pub left_after : (q dq n : ℕ) → 1 ≤ n → q ≤ dq → n - (dq - q) % n ≡ q + ((dq - q) / n + 1) * n - dq
left_after q dq n some past = omega (arith, div-add-mod (dq - q) n)

pub depleted_some : (s : Server) (p : Reservation) (dq k q d : ℕ) → recharges_of s p dq ≡ k → q ≡ s.q + k * p.runtime - dq → d ≡ s.d + k * p.period → d < 2 ^ 32
    → Some (k, record { q = q; d = d }) ≡ depleted_of s p dq
depleted_some s p dq k q d count budget deadline small =
    let test : nat_lt (s.d + recharges_of s p dq * p.period) (2 ^ 32) ≡ true = rw (count, ← deadline) (lt-ltb _ _ small) in
    rw test (rw (count, ← budget, ← deadline) refl)

pub depleted_none : (s : Server) (p : Reservation) (dq k : ℕ) → recharges_of s p dq ≡ k → 2 ^ 32 ≤ s.d + k * p.period
    → None ≡ depleted_of s p dq
depleted_none s p dq k count large =
    let test : nat_lt (s.d + recharges_of s p dq * p.period) (2 ^ 32) ≡ false = rw count (le-ltb _ _ large) in
    rw test refl

-- the code's count, from its parts
pub count_is : (s : Server) (p : Reservation) (dq q n : ℕ) → Fits s p → q ≡ s.q → n ≡ p.runtime → q ≤ dq → recharges_of s p dq ≡ (dq - q) / n + 1
count_is s p dq q n fits q_is n_is past =
    rw (q_is, n_is) (recharges_past s.q dq p.runtime fits.some fits.most (omega arith))
