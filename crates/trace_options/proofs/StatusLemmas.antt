-- What a status says of what was done.
use Rattle.std.proofs.Common.{◌≡◌, ◌⊎◌, inl, inr, arith, refl, ℕ, Result, Ok, Err}
use Rattle.std.specs.Prelude.{MatchResult, OnOk}
use Rattle.trace_options.specs.Faults.{status_of}
use Rattle.trace_options.specs.declared.fault.Fault.{Fault}
use Rattle.trace_options.specs.declared.fault.Fault.TheVariants as faults

one_or_three : (e : Fault) → (status_of e ≡ 1) ⊎ (status_of e ≡ 3)
one_or_three faults.Write = inr refl
one_or_three faults.Unreadable = inr refl
one_or_three faults.NoMemory = inr refl
one_or_three faults.NoText = inr refl
one_or_three e = inl refl

not_done : (e : Fault) (n : ℕ) → n ≡ status_of e → n ≡ 0 → ⊥
not_done e n is nil = elim (one_or_three e) [
  | inl one ↦ omega (arith, is, nil, one)
  | inr three ↦ omega (arith, is, nil, three)
]

-- status 0 is that of a success
pub of_done : {U P : Type 0} (r : Result U Fault) (n : ℕ) → MatchResult r (λ _. n ≡ 0) (λ e. n ≡ status_of e) → n ≡ 0 → OnOk r P → P
of_done (Ok u) n is nil p = p
of_done (Err e) n is nil p = absurd (not_done e n is nil)
