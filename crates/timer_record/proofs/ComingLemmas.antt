-- Notes that come, one after another.
use Rattle.std.proofs.Common.{◌≡◌, ℕ, ◌+◌, zero, suc, true, false, List, [], ◌∷◌, drop, Some, slice_get, refl, ap, ◌∙◌, add-one}
use Rattle.timer_record.specs.declared.lines.TaskNote.{TaskNote}
use Rattle.timer_record.specs.Kept.{Kept}
use Rattle.timer_record.specs.Records.{come_in, come_until, is_due}

dropped_at : (xs : List TaskNote) (i : ℕ) (x : TaskNote) → slice_get xs i ≡ Some x → drop i xs ≡ x ∷ drop (suc i) xs
dropped_at [] i x e = cc
dropped_at (y ∷ xs) zero x e = let same : y ≡ x = cc in rw same refl
dropped_at (y ∷ xs) (suc i) x e = dropped_at xs i x e

dropped_one : (xs : List TaskNote) (i : ℕ) (x : TaskNote) → slice_get xs i ≡ Some x → drop i xs ≡ x ∷ drop (i + 1) xs
dropped_one xs i x e = rw (add-one i) (dropped_at xs i x e)

-- the note at a place comes
pub come_step : (at : ℕ) (xs : List TaskNote) (i : ℕ) (x : TaskNote) (k : Kept) (n : ℕ) → slice_get xs i ≡ Some x → is_due at x ≡ true → n ≡ k.come + 1
    → come_until at (drop i xs) k ≡ come_until at (drop (i + 1) xs) (come_in x (record k { come = n }))
come_step at xs i x k n here due next = rw (dropped_one xs i x here, due, next) refl

-- it is still to come
pub come_stop : (at : ℕ) (xs : List TaskNote) (i : ℕ) (x : TaskNote) (k : Kept) → slice_get xs i ≡ Some x → is_due at x ≡ false → come_until at (drop i xs) k ≡ k
come_stop at xs i x k here due = rw (dropped_at xs i x here, due) refl
