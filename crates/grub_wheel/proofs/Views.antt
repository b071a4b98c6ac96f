-- What callers see of a list of timers, and what that becomes.
use Rattle.std.proofs.Common.{◌≡◌, ℕ, ◌+◌, ◌-◌, List, Option, Some, ap, ◌∙◌, sym, subst}
use Rattle.std.specs.FinMap as map
use Rattle.grub_wheel.specs.declared.timer.Timer.{Timer}
use Rattle.grub_wheel.specs.TimerBag.{TimerBag, WheelState, IsArmed, after_arming, after_taking}
use Rattle.grub_wheel.proofs.Looks.{look, bag_of, get_look}

abbrev pub state_of : List Timer → ℕ → Option ℕ → WheelState
state_of xs s l = record { timers = bag_of xs; spare = s; last = l }

pub looks : (xs : List Timer) (s : ℕ) (l : Option ℕ) (w : WheelState) (t : ℕ) → state_of xs s l ≡ w → map.get w.timers t ≡ look xs t
looks xs s l w t e = ap (λ (v : WheelState). map.get v.timers t) (sym e) ∙ get_look xs t

-- what the list has for a task is armed
pub is_armed : (xs : List Timer) (s : ℕ) (l : Option ℕ) (w : WheelState) (t : ℕ) (x : Timer) → state_of xs s l ≡ w → look xs t ≡ Some (x.z, x.ticket) → x.t ≡ t → IsArmed w.timers x
is_armed xs s l w t x e h is = looks xs s l w x.t e ∙ ap (look xs) is ∙ h

pub arming_state : (xs ys : List Timer) (x : Timer) (s : ℕ) (l : Option ℕ) (w : WheelState) → state_of xs s l ≡ w → bag_of ys ≡ map.insert (bag_of xs) x.t (x.z, x.ticket)
    → state_of ys (s - 1) l ≡ after_arming w x
arming_state xs ys x s l w e put =
    subst (λ (v : WheelState). state_of ys (s - 1) l ≡ after_arming v x) e
    (ap (λ (bag : TimerBag). record { timers = bag; spare = s - 1; last = l }) put)

pub taking_state : (xs ys : List Timer) (t s : ℕ) (l k : Option ℕ) (w : WheelState) → state_of xs s l ≡ w → bag_of ys ≡ map.remove (bag_of xs) t
    → state_of ys (s + 1) k ≡ record (after_taking w t) { last = k }
taking_state xs ys t s l k w e taken =
    subst (λ (v : WheelState). state_of ys (s + 1) k ≡ record (after_taking v t) { last = k }) e
    (ap (λ (bag : TimerBag). record { timers = bag; spare = s + 1; last = k }) taken)

pub cancelling_state : (xs ys : List Timer) (t s : ℕ) (l : Option ℕ) (w : WheelState) → state_of xs s l ≡ w → bag_of ys ≡ map.remove (bag_of xs) t
    → state_of ys (s + 1) l ≡ after_taking w t
cancelling_state xs ys t s l w e taken =
    subst (λ (v : WheelState). state_of ys (s + 1) l ≡ after_taking v t) e
    (ap (λ (bag : TimerBag). record { timers = bag; spare = s + 1; last = l }) taken)
