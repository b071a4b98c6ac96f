-- The least run that uses up a budget.
use Rattle.std.proofs.Common.{◌≡◌, ℕ, ◌+◌, ◌-◌, ◌*◌, ◌/◌, ◌<◌, ◌≤◌, arith}
use Rattle.std.proofs.Math.Nat.{lt-div-mul-add, le-div_iff_mul-le, div-lt_iff_lt-mul}
use Rattle.grub_book.specs.Bandwidth.{Capacity}
use Rattle.grub_book.specs.Server.{rate_of}
use Rattle.grub_book.specs.declared.event.Reading.{Reading}
use Rattle.library_book.specs.Exhaustion.{IsExhaustion}

module _ (budget most rate : ℕ) (some : 0 < rate) (cap : 0 < most) where
  abbrev padded : ℕ
  padded = budget * most + (rate - 1)

  enough : budget ≤ padded / rate * rate / most
  enough =
      let below : padded < padded / rate * rate + rate = lt-div-mul-add some in
      let covers : budget * most ≤ padded / rate * rate = omega (arith, below, some) in
      (le-div_iff_mul-le cap).1 covers

  least : (k : ℕ) → budget ≤ k * rate / most → padded / rate ≤ k
  least k h =
      let covers : budget * most ≤ k * rate = (le-div_iff_mul-le cap).0 h in
      let below : padded / rate < k + 1 = (div-lt_iff_lt-mul some).1 (omega (arith, covers, some)) in
      omega (arith, below)

pub is_exhaustion : (budget u : ℕ) (c : Capacity) (now : Reading) → 0 < u → 0 < c.most
    → let rate = rate_of u c now.running now.this in IsExhaustion budget u c now ((budget * c.most + (rate - 1)) / rate)
is_exhaustion budget u c now some cap =
    let rate = rate_of u c now.running now.this in
    let positive : 0 < rate = omega (arith, some) in
    record { enough = enough budget c.most rate positive cap; least = least budget c.most rate positive cap }

-- the same, from what was computed
pub least_is : (budget u : ℕ) (c : Capacity) (now : Reading) (n rate : ℕ) → 0 < u → 0 < c.most → rate ≡ rate_of u c now.running now.this → n ≡ budget * c.most → IsExhaustion budget u c now ((n + (rate - 1)) / rate)
least_is budget u c now n rate some cap rate_is n_is = rw (n_is, rate_is) (is_exhaustion budget u c now some cap)
