-- What the last line of each CPU tells, where there is a place for each CPU so far.
use Rattle.std.proofs.Common.{◌≡◌, ℕ, ◌+◌, ◌<◌, ◌≤◌, zero, suc, ◌==◌, if◌then◌else◌, List, [], ◌∷◌, ◌++◌, length, take, replicate, slice_set, refl, arith}
use Rattle.std.proofs.Math.Dec.{eqb-suc-suc, eqb-suc-zero, eqb-zero-suc}
use Rattle.std.proofs.Math.Path.{fun_ext}
use Rattle.timer_record.specs.declared.before.Before.{Before}
use Rattle.timer_record.specs.declared.before.Before.TheVariants.{Nothing}
use Rattle.timer_record.specs.Kept.{before_in, with_before}

nothing_at : (k q : ℕ) → before_in (replicate k Nothing) q ≡ Nothing
nothing_at zero q = refl
nothing_at (suc k) zero = refl
nothing_at (suc k) (suc q) = nothing_at k q

more_at : (bs : List Before) (n k q : ℕ) → length bs ≤ n → before_in (take n bs ++ replicate k Nothing) q ≡ before_in bs q
more_at [] zero k q h = nothing_at k q
more_at [] (suc n) k q h = nothing_at k q
more_at (b ∷ bs) zero k q h = absurd (omega arith)
more_at (b ∷ bs) (suc n) k zero h = refl
more_at (b ∷ bs) (suc n) k (suc q) h = more_at bs n k q (omega arith)

-- more places, of which no line told anything
pub before_more : (bs : List Before) (n k : ℕ) → length bs ≤ n → before_in (take n bs ++ replicate k Nothing) ≡ before_in bs
before_more bs n k h = fun_ext (λ q. more_at bs n k q h)

set_at : (bs : List Before) (cpu : ℕ) (b : Before) (q : ℕ) → cpu < length bs → before_in (slice_set bs cpu b) q ≡ (if cpu == q then b else before_in bs q)
set_at [] cpu b q h = absurd (omega arith)
set_at (x ∷ bs) zero b zero h = refl
set_at (x ∷ bs) zero b (suc q) h = rw (eqb-zero-suc q) refl
set_at (x ∷ bs) (suc cpu) b zero h = rw (eqb-suc-zero cpu) refl
set_at (x ∷ bs) (suc cpu) b (suc q) h = rw (eqb-suc-suc cpu q) (set_at bs cpu b q (omega arith))

-- a place that there is
pub before_set : (bs : List Before) (cpu : ℕ) (b : Before) → cpu < length bs → before_in (slice_set bs cpu b) ≡ with_before cpu b (before_in bs)
before_set bs cpu b h = fun_ext (λ q. set_at bs cpu b q h)
