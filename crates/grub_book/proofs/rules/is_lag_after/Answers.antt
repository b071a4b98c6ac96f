use Rattle.std.proofs.Common.{◌≡◌, ℕ, ◌-◌, ◌*◌, ◌/◌, ◌<◌, ◌≤◌, nat_lt, sym, ◌∙◌, ⊎_elim, arith}
use Rattle.std.proofs.Math.Nat.{div-lt_iff_lt-mul, le-div_iff_mul-le}
use Rattle.std.proofs.lemmas.Bool.{lt-ltb, le-ltb, cases_lt}
use Rattle.grub_book.proofs.rules.is_lag_after.Goals as goal

-- the quotient is less than what is left exactly where the product is
multiplied : (b n d m : ℕ) → 1 ≤ n → m < d → nat_lt b ((d - m) * n) ≡ nat_lt m (d - b / n)
multiplied b n d m some late = ⊎_elim
    (λ (lt : b < (d - m) * n).
    let less : b / n < d - m = (div-lt_iff_lt-mul {k = n} {x = b} {y = d - m} (omega arith)).1 lt in
    lt-ltb b ((d - m) * n) lt ∙ sym (lt-ltb m (d - b / n) (omega (arith, less, late))))
    (λ (le : (d - m) * n ≤ b).
    let more : d - m ≤ b / n = (le-div_iff_mul-le {k = n} {x = d - m} {y = b} (omega arith)).1 le in
    le-ltb b ((d - m) * n) le ∙ sym (le-ltb m (d - b / n) (omega (arith, more, late))))
    (cases_lt b ((d - m) * n))

pub returns : goal.returns
returns c =
    let s = c.args.server in
    let p = c.args.params in
    let some = c.requires.some in
    let most = c.requires.most in
    let not = c.if-server-m.false in
    let budget : c.from.result * c.from-2.result ≡ s.q * p.period = cc in
    let room : c.from-3.result * c.from-4.result ≡ (s.d - c.args.m) * p.runtime = cc in
    rw (budget, room) (multiplied (s.q * p.period) p.runtime s.d c.args.m (omega (arith, some, most)) (omega (arith, not)))
