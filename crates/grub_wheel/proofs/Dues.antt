-- What is due, and what a wheel becomes by `due`.
use Rattle.std.proofs.Common.{◌≡◌, ◌≢◌, ℕ, false, ◌<◌, ◌≤◌, ◌⊎◌, inl, inr, List, Option, Some, None, refl, ap, ◌∙◌, sym, arith, subst}
use Rattle.grub_wheel.specs.declared.timer.Timer.{Timer}
use Rattle.grub_wheel.specs.declared.node.Node.{Node}
use Rattle.grub_wheel.specs.TimerBag.{WheelState, IsArmed, IsLeast, AreLater}
use Rattle.grub_wheel.specs.inside.Firsts.{IsFront}
use Rattle.grub_wheel.specs.inside.Nodes.{node_at, Armed, keys, tasks, moments, timers_of, AreInSlots, IsFirstOf, AreOthersKept}
use Rattle.std.proofs.lemmas.Bool.{cases_lt}
use Rattle.grub_wheel.proofs.NodeReads.{not_armed}
use Rattle.grub_wheel.proofs.Keys.{key_parts}
use Rattle.grub_wheel.proofs.Bags.{not_after}
use Rattle.grub_wheel.proofs.Views.{state_of, looks, is_armed}
use Rattle.grub_wheel.proofs.Apart.{IsEntry, look_at, look_is}

-- the front of what is due
abbrev pub IsDue : List Node → ℕ → ℕ → Type 0
IsDue ns k i = IsFront (Armed ns) (keys ns) (λ j. moments ns j ≤ k) i

pub due_is : (ns ds : List Node) (k i : ℕ) (o : Option ℕ) → ds ≡ ns → IsFirstOf ds (λ j. moments ds j ≤ k) o → o ≡ Some i → IsDue ns k i
due_is ns ds k i o e f is = subst (λ (xs : List Node). IsFirstOf xs (λ j. moments xs j ≤ k) (Some i)) e (subst (λ (p : Option ℕ). IsFirstOf ds (λ j. moments ds j ≤ k) p) is f)

pub none_due : (ns ds : List Node) (k : ℕ) (o : Option ℕ) → ds ≡ ns → IsFirstOf ds (λ j. moments ds j ≤ k) o → o ≡ None → (j : ℕ) → Armed ns j → k < moments ns j
none_due ns ds k o e f is j a = go (cases_lt k (moments ns j))
  where
    none : (j : ℕ) → Armed ns j → moments ns j ≤ k → ⊥
    none = subst (λ (xs : List Node). IsFirstOf xs (λ j. moments xs j ≤ k) None) e (subst (λ (p : Option ℕ). IsFirstOf ds (λ j. moments ds j ≤ k) p) is f)

    go : (k < moments ns j) ⊎ (moments ns j ≤ k) → k < moments ns j
    go (inl l) = l
    go (inr l) = absurd (none j a l)

module _ (ns : List Node) (s : ℕ) (l : Option ℕ) (w : WheelState) (view : state_of (timers_of ns) s l ≡ w) where
  entry : (y : Timer) → IsArmed w.timers y → IsEntry ns y.t (y.z, y.ticket)
  entry y a = look_at ns y.t (y.z, y.ticket) (sym (looks (timers_of ns) s l w y.t view) ∙ a)

  pub none_later : (k : ℕ) → ((j : ℕ) → Armed ns j → k < moments ns j) → AreLater w.timers k
  none_later k none y a =
      let n = entry y a in
      let z : y.z ≡ moments ns n.at = ap (λ (p : ℕ × ℕ). p.0) n.pair in
      let x = none n.at n.armed in
      omega arith

  module _ (hs : List (Option ℕ)) (sound : AreInSlots ns hs) (k i : ℕ) (d : IsDue ns k i) (x : Timer) (is : (node_at ns i).timer ≡ x) where
    pub due_armed : IsArmed w.timers x
    due_armed = is_armed (timers_of ns) s l w x.t x view (look_is ns i x.t sound.apart d.armed (ap (λ (y : Timer). y.t) is) ∙ ap (λ (y : Timer). Some (y.z, y.ticket)) is) refl

    in_order : (j : ℕ) → Armed ns j → (moments ns i < moments ns j) ⊎ ((moments ns i ≡ moments ns j) × (tasks ns i ≤ tasks ns j))
    in_order j a = go (cases_lt k (moments ns j))
      where
        go : (k < moments ns j) ⊎ (moments ns j ≤ k) → (moments ns i < moments ns j) ⊎ ((moments ns i ≡ moments ns j) × (tasks ns i ≤ tasks ns j))
        go (inl l) = let r = d.meets in inl (omega arith)
        go (inr l) = key_parts (moments ns i) (tasks ns i) (moments ns j) (tasks ns j) (sound.narrow i d.armed) (sound.narrow j a) (d.least j a l)

    pub due_least : IsLeast w.timers x
    due_least y a = not_after w.timers x y due_armed a (go (entry y a))
      where
        go : IsEntry ns y.t (y.z, y.ticket) → (x.z < y.z) ⊎ ((x.z ≡ y.z) × (x.t ≤ y.t))
        go n = go2 (in_order n.at n.armed)
          where
            go2 : (moments ns i < moments ns n.at) ⊎ ((moments ns i ≡ moments ns n.at) × (tasks ns i ≤ tasks ns n.at)) → (x.z < y.z) ⊎ ((x.z ≡ y.z) × (x.t ≤ y.t))
            go2 (inl m) = let z = ap (λ (p : ℕ × ℕ). p.0) n.pair in let u = ap (λ (q : Timer). q.z) is in inl (omega arith)
            go2 (inr m) = let z = ap (λ (p : ℕ × ℕ). p.0) n.pair in let u = ap (λ (q : Timer). q.z) is in let v = ap (λ (q : Timer). q.t) is in let t = n.task in let a = m.0 in let b = m.1 in inr (omega arith, omega arith)

    -- what is left is at the moment of what is taken out, or later
    pub rest_after : (ms : List Node) → AreOthersKept ns ms i → (node_at ms i).armed ≡ false → (j : ℕ) → Armed ms j → moments ns i ≤ moments ms j
    rest_after ms others off j a = go (in_order j (sym (others.kept j ne).armed ∙ a))
      where
        ne : j ≢ i
        ne = not_armed ms i off j a

        go : (moments ns i < moments ns j) ⊎ ((moments ns i ≡ moments ns j) × (tasks ns i ≤ tasks ns j)) → moments ns i ≤ moments ms j
        go (inl m) = let s = ap (λ (x : Timer). x.z) (others.kept j ne).timer in omega arith
        go (inr m) = let s = ap (λ (x : Timer). x.z) (others.kept j ne).timer in let e = m.0 in omega arith
