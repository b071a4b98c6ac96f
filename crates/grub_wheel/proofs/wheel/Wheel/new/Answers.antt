use Rattle.std.proofs.Common.{◌≡◌, ℕ, Option, Some, None, refl, [], ◌∷◌}
use Rattle.grub_wheel.proofs.Hashed.{fresh_hashed, fresh_mapped, fresh_marked}
use Rattle.grub_wheel.proofs.wheel.Wheel.new.Goals as goal

only_none : (P : Option ℕ → Type 0) → ((x : ℕ) → P (Some x) → ⊥) → (y : Option ℕ) → P y → y ≡ None
only_none P other None h = refl
only_none P other (Some x) h = absurd (other x h)

pub invariant_of-result : goal.invariant_of-result
invariant_of-result c =
    let all = c.in-Ok.ensures.items_if_clones_equal (only_none _ (λ x h. h)) in
    record { hashed = fresh_hashed _ _ c.new.ensures.items all; mapped = λ s lt some. fresh_mapped (0 ∷ 0 ∷ 0 ∷ 0 ∷ []) c.in-Ok.heads.items all s lt some; marked = fresh_marked (0 ∷ 0 ∷ 0 ∷ 0 ∷ []) _ c.new.ensures.items }
