-- More runtime is never later.
use Rattle.std.proofs.Common.{◌≡◌, ℕ, ◌+◌, ◌-◌, ◌≤◌, Bool, true, false, cond, nat_le, List, [], ◌∷◌, refl, arith}
use Rattle.std.proofs.lemmas.Bool.{le-leb, leb-true, and_parts, and_from}
use Rattle.std.proofs.lemmas.Nat.{mul-le}
use Rattle.size_least.specs.Span.{budgets_of, span}
use Rattle.size_least.specs.Jobs.{is_done_by, late_after, late_of}
use Rattle.size_least.specs.declared.job.Job.{Job}
use Rattle.size_least.proofs.Budgets.{budgets-fall}

pub span-fall : (q r period work : ℕ) → 1 ≤ q → q ≤ r → r ≤ period → span r period work ≤ span q period work
unfolding span
span-fall q r period work some le room =
    let fewer = budgets-fall work q r (omega arith) le in
    let times = mul-le (budgets_of work r) (period - r) (budgets_of work q) (period - q) fewer (omega arith) in
    omega arith

pub done-more : (q r period due after : ℕ) (past : List Job) → 1 ≤ q → q ≤ r → r ≤ period → is_done_by q period due after past ≡ true → is_done_by r period due after past ≡ true
done-more q r period due after [] some le room h = refl
done-more q r period due after (job ∷ past) some le room h =
    let parts = and_parts (nat_le (job.release + span q period (job.work + after)) due) (is_done_by q period due (job.work + after) past) h in
    let first = leb-true (job.release + span q period (job.work + after)) due parts.0 in
    let less = span-fall q r period (job.work + after) some le room in
    and_from (nat_le (job.release + span r period (job.work + after)) due) (is_done_by r period due (job.work + after) past)
    (le-leb (job.release + span r period (job.work + after)) due (omega arith))
    (done-more q r period due (job.work + after) past some le room parts.1)

tests-fall : (a b : Bool) (m n : ℕ) → (a ≡ true → b ≡ true) → n ≤ m → cond b 0 1 + n ≤ cond a 0 1 + m
tests-fall a true m n h le = elim a as (λ a. 0 + n ≤ cond a 0 1 + m) [ true ↦ omega arith | false ↦ omega arith ]
tests-fall true false m n h le = absurd (let e : false ≡ true = h refl in cc)
tests-fall false false m n h le = omega arith

pub late-fall : (q r period : ℕ) (past jobs : List Job) → 1 ≤ q → q ≤ r → r ≤ period → late_after r period past jobs ≤ late_after q period past jobs
late-fall q r period past [] some le room = omega arith
late-fall q r period past (job ∷ jobs) some le room =
    tests-fall (is_done_by q period job.due 0 (job ∷ past)) (is_done_by r period job.due 0 (job ∷ past)) _ _
    (done-more q r period job.due 0 (job ∷ past) some le room)
    (late-fall q r period (job ∷ past) jobs some le room)

pub late_of-fall : (q r period : ℕ) (jobs : List Job) → 1 ≤ q → q ≤ r → r ≤ period → late_of r period jobs ≤ late_of q period jobs
late_of-fall q r period jobs some le room = late-fall q r period [] jobs some le room
