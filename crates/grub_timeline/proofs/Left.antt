-- How many lines are left, and which.
use Rattle.std.proofs.Common.{◌≡◌, ℕ, zero, suc, ◌≤◌, List, [], ◌∷◌, None, length, slice_get, refl, arith}
use Rattle.std.proofs.lemmas.Option.{slice_get_past}
use Rattle.grub_plan.specs.Plans.{Line}
use Rattle.grub_timeline.specs.Order.{left}
use Rattle.grub_timeline.specs.inside.Merge.{NoHead}

pub past : {X : Type 0} (xs : List X) (k : ℕ) → slice_get xs k ≡ None → length xs ≤ k
past [] k none = omega arith
past (x ∷ xs) zero none = absurd (cc)
past (x ∷ xs) (suc k) none = let more = past xs k none in omega (arith, more)

pub none_left : (scripts : List (List Line)) (done : List ℕ) → NoHead scripts done → left scripts done ≡ 0
none_left [] done none = refl
none_left (script ∷ scripts) [] none = refl
none_left (script ∷ scripts) (n ∷ done) none =
    let here = past script n (none 0) in let more = none_left scripts done (λ r. none (suc r)) in
    omega (arith, here, more)

pub no_head : (scripts : List (List Line)) (done : List ℕ) → length done ≡ length scripts → left scripts done ≡ 0 → NoHead scripts done
no_head [] done each over r = refl
no_head (script ∷ scripts) [] each over r = absurd (omega (arith, each))
no_head (script ∷ scripts) (n ∷ done) each over zero = slice_get_past script n (omega (arith, over))
no_head (script ∷ scripts) (n ∷ done) each over (suc r) = no_head scripts done (omega (arith, each)) (omega (arith, over)) r
