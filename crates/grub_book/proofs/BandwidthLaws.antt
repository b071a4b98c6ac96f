-- A server stays within its reservation, and its deadline in range.
use Rattle.std.proofs.Common.{◌≡◌, ℕ, ◌+◌, ◌-◌, ◌*◌, ◌%◌, ◌^◌, ◌<◌, ◌≤◌, Bool, true, false, cond, Some, None, refl, subst, arith, nat_lt}
use Rattle.std.proofs.Math.Nat.{div-add-mod, mod-lt}
use Rattle.std.proofs.lemmas.Bool.{ltb-true}
use Rattle.grub_book.specs.Bandwidth.{Reservation, IsReservation}
use Rattle.grub_book.specs.Server.{Fits, IsServer, fresh_of, woken_of, recharges_of, depleted_of}
use Rattle.grub_book.specs.declared.server.Server.{Server}
use Rattle.grub_book.specs.declared.server.TheConstants.{MOMENT_MAX}

pub IsServer-fresh : (p : Reservation) → IsReservation p → IsServer (fresh_of p) p
IsServer-fresh p ok = record { fits = record { some = ok.runtime.0; most = omega arith }; deadline = omega arith }

pub IsServer-woken : (s : Server) (p : Reservation) (m : ℕ) → IsReservation p → IsServer s p → m ≤ MOMENT_MAX → IsServer (woken_of s p m) p
IsServer-woken s p m ok was small =
    elim (nat_lt (s.d * p.runtime) (s.q * p.period + m * p.runtime)) as (λ b. IsServer (cond b (record { q = p.runtime; d = m + p.period }) s) p) [
      | true ↦ record { fits = record { some = ok.runtime.0; most = omega arith }; deadline = let h = ok.period.1 in omega arith }
      | false ↦ was
    ]

-- the budget after the recharges is at least 1 and at most the runtime
pub Fits-recharged : (s : Server) (p : Reservation) (dq : ℕ) → Fits s p → 1 ≤ p.runtime → (d : ℕ) → Fits (record { q = s.q + recharges_of s p dq * p.runtime - dq; d = d }) p
Fits-recharged s p dq fits some d =
    let n = dq + (p.runtime - s.q) in
    let parts = div-add-mod n p.runtime in
    let below : n % p.runtime < p.runtime = mod-lt n (omega arith) in
    let h = fits.most in
    let g = fits.some in
    let is : s.q + recharges_of s p dq * p.runtime - dq ≡ p.runtime - n % p.runtime = omega (arith, parts) in
    record { some = omega (arith, is, below); most = omega (arith, is) }

-- what holds of a value under a test holds of the value that is there
some_under : (b : Bool) (x y : ℕ × Server) (P : Server → Type 0) → (b ≡ true → P x.1) → cond b (Some x) None ≡ Some y → P y.1
some_under true x y P h is = let e : x.1 ≡ y.1 = cc in subst P e (h refl)
some_under false x y P h is = absurd cc

pub IsServer-depleted : (s : Server) (p : Reservation) (dq k : ℕ) (t : Server) → IsReservation p → IsServer s p → depleted_of s p dq ≡ Some (k, t) → IsServer t p
IsServer-depleted s p dq k t ok was is =
    let n = recharges_of s p dq in
    let d = s.d + n * p.period in
    some_under (nat_lt d (2 ^ 32)) (n, record { q = s.q + n * p.runtime - dq; d = d }) (k, t) (λ u. IsServer u p)
    (λ e. record { fits = Fits-recharged s p dq was.fits ok.runtime.0 d; deadline = ltb-true d (2 ^ 32) e })
    is
