-- A moment and a task as one number, by which the timers of a slot stand in order.
use Rattle.std.proofs.Common.{◌≡◌, ℕ, ◌+◌, ◌*◌, ◌<◌, ◌≤◌, Bool, true, false, eqb, ltb, ◌||◌, ◌&&◌, ◌⊎◌, inl, inr, refl, arith}
use Rattle.std.proofs.lemmas.Bool.{eqb-true, ltb-true, cases_lt}

pub key_tasks : (z t y u : ℕ) → t < 4294967296 → u < 4294967296 → z * 4294967296 + t ≡ y * 4294967296 + u → t ≡ u
key_tasks z t y u a b e = omega arith

pub key_moments : (z t y u : ℕ) → u < 4294967296 → z * 4294967296 + t ≤ y * 4294967296 + u → z ≤ y
key_moments z t y u lt h = omega arith

pub later_key : (z t y u : ℕ) → t < 4294967296 → z < y → z * 4294967296 + t ≤ y * 4294967296 + u
later_key z t y u lt h = omega arith

pub key_parts : (z t y u : ℕ) → t < 4294967296 → u < 4294967296 → z * 4294967296 + t ≤ y * 4294967296 + u → (z < y) ⊎ ((z ≡ y) × (t ≤ u))
key_parts z t y u a b h = go (cases_lt z y)
  where
    go : (z < y) ⊎ (y ≤ z) → (z < y) ⊎ ((z ≡ y) × (t ≤ u))
    go (inl l) = inl l
    go (inr l) = let e : z ≡ y = omega arith in inr (e, omega arith)

pub before_key : (z t y u : ℕ) → t < 4294967296 → (ltb z y || (eqb z y && ltb t u)) ≡ true → z * 4294967296 + t < y * 4294967296 + u
before_key z t y u a h = go (ltb z y) refl h
  where
    go : (b : Bool) → ltb z y ≡ b → (b || (eqb z y && ltb t u)) ≡ true → z * 4294967296 + t < y * 4294967296 + u
    go true e h = let l = ltb-true z y e in omega arith
    go false e h = go2 (eqb z y) refl h
      where
        go2 : (b : Bool) → eqb z y ≡ b → (b && ltb t u) ≡ true → z * 4294967296 + t < y * 4294967296 + u
        go2 true f h = let s = eqb-true z y f in let l = ltb-true t u h in omega arith
        go2 false f h = absurd cc
