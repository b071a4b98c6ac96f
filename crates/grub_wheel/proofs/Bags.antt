-- Bags of timers.
use Rattle.std.proofs.Common.{◌≡◌, ℕ, ◌<◌, ◌≤◌, Bool, true, false, eqb, ◌⊎◌, inl, inr, Option, Some, None, refl, ap, sym, ◌∙◌, arith, subst}
use Rattle.std.proofs.lemmas.Option.{same_Some}
use Rattle.std.specs.Prelude.{IsSomeAnd}
use Rattle.std.proofs.lemmas.Bool.{eqb-true}
use Rattle.std.proofs.lemmas.Bool.Decides.{nat_tests}
use Rattle.std.specs.FinMap as map
use Rattle.grub_wheel.specs.declared.timer.Timer.{Timer}
use Rattle.grub_wheel.specs.TimerBag.{TimerBag, IsArmed, IsNotAfter}

-- whether what a map has for a task has this ticket
abbrev pub HasTicket : Option (ℕ × ℕ) → ℕ → Type 0
HasTicket found ticket = IsSomeAnd found (λ p. p.1 ≡ ticket)

pub has_ticket : (found : Option (ℕ × ℕ)) (z k ticket : ℕ) → found ≡ Some (z, k) → k ≡ ticket → HasTicket found ticket
has_ticket found z k ticket e is = subst (λ (o : Option (ℕ × ℕ)). HasTicket o ticket) (sym e) is

pub other_ticket : (found : Option (ℕ × ℕ)) (z k ticket : ℕ) → found ≡ Some (z, k) → (k ≡ ticket → ⊥) → HasTicket found ticket → ⊥
other_ticket found z k ticket e not h = not (subst (λ (o : Option (ℕ × ℕ)). HasTicket o ticket) e h)

pub no_ticket : (found : Option (ℕ × ℕ)) (ticket : ℕ) → found ≡ None → HasTicket found ticket → ⊥
no_ticket found ticket e h = subst (λ (o : Option (ℕ × ℕ)). HasTicket o ticket) e h

-- a task has one timer, so moments and tasks alone decide which of two is first
pub not_after : (timers : TimerBag) (x y : Timer) → IsArmed timers x → IsArmed timers y → (x.z < y.z) ⊎ ((x.z ≡ y.z) × (x.t ≤ y.t)) → IsNotAfter x y
not_after timers x y a b (inl h) = inl h
not_after timers x y a b (inr h) = inr (h.0, go (eqb x.t y.t) refl)
  where
    same_ticket : x.t ≡ y.t → x.ticket ≡ y.ticket
    same_ticket e = ap (λ (p : ℕ × ℕ). p.1) (same_Some _ _ (sym a ∙ ap (map.get timers) e ∙ b))

    go : (t : Bool) → eqb x.t y.t ≡ t → (x.t < y.t) ⊎ ((x.t ≡ y.t) × (x.ticket ≤ y.ticket))
    go true e = let same = eqb-true x.t y.t e in let k = same_ticket same in inr (same, omega arith)
    go false e = let le = h.1 in inl (grind (arith, nat_tests))
