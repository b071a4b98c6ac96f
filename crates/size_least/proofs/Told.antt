-- A job is in time as it is told.
use Rattle.std.proofs.Common.{◌≡◌, ℕ, ◌+◌, ◌≤◌, zero, suc, true, nat_le, Some, List, [], ◌∷◌, take, sum_by, refl, sym, subst, arith}
use Rattle.std.specs.List.{slice_get}
use Rattle.std.proofs.lemmas.Bool.{leb-true, le-leb, and_parts, and_from}
use Rattle.std.proofs.lemmas.Option.{slice_get_within}
use Rattle.std.proofs.lemmas.List.Sums.{sum_by-cons}
use Rattle.size_least.specs.Span.{span}
use Rattle.size_least.specs.Jobs.{is_done_by}
use Rattle.size_least.specs.declared.job.Job.{Job}

-- the work of one job more
more : (x : Job) (after : ℕ) (past : List Job) (n : ℕ) → sum_by (λ (j : Job). j.work) (take (suc (suc n)) (x ∷ past)) + after ≡ sum_by (λ (j : Job). j.work) (take (suc n) past) + (x.work + after)
more x after past n = omega (arith, sum_by-cons (λ (j : Job). j.work) x (take (suc n) past))

pub done-told : (q p due after : ℕ) (past : List Job) → is_done_by q p due after past ≡ true
    → (n : ℕ) (job : Job) → slice_get past n ≡ Some job → job.release + span q p (sum_by (λ (j : Job). j.work) (take (suc n) past) + after) ≤ due
done-told q p due after [] h n job is = let lt = slice_get_within [] n job is in absurd (omega arith)
done-told q p due after (x ∷ past) h zero job is =
    let parts = and_parts (nat_le (x.release + span q p (x.work + after)) due) (is_done_by q p due (x.work + after) past) h in
    let first = leb-true (x.release + span q p (x.work + after)) due parts.0 in
    let same : x ≡ job = cc in
    let P : Job → Type 0 = λ j. j.release + span q p (0 + x.work + after) ≤ due in
    let e : 0 + x.work + after ≡ x.work + after = omega arith in
    subst P same (rw e first)
done-told q p due after (x ∷ past) h (suc n) job is =
    let parts = and_parts (nat_le (x.release + span q p (x.work + after)) due) (is_done_by q p due (x.work + after) past) h in
    let rest = done-told q p due (x.work + after) past parts.1 n job is in
    let P : ℕ → Type 0 = λ m. job.release + span q p m ≤ due in
    subst P (sym (more x after past n)) rest

pub told-done : (q p due after : ℕ) (past : List Job)
    → ((n : ℕ) (job : Job) → slice_get past n ≡ Some job → job.release + span q p (sum_by (λ (j : Job). j.work) (take (suc n) past) + after) ≤ due)
    → is_done_by q p due after past ≡ true
told-done q p due after [] h = refl
told-done q p due after (x ∷ past) h =
    let first = h 0 x refl in
    and_from (nat_le (x.release + span q p (x.work + after)) due) (is_done_by q p due (x.work + after) past)
    (le-leb (x.release + span q p (x.work + after)) due (let e : 0 + x.work + after ≡ x.work + after = omega arith in let P : ℕ → Type 0 = λ m. x.release + span q p m ≤ due in subst P e first))
    (told-done q p due (x.work + after) past (λ n job is. let P : ℕ → Type 0 = λ m. job.release + span q p m ≤ due in subst P (more x after past n) (h (suc n) job is)))
