-- Heights that grow step by step are those of needs.
use Rattle.std.proofs.Common.{◌≡◌, ℕ, ◌+◌, ◌-◌, ◌*◌, ◌/◌, ◌<◌, ◌≤◌, min, Bool, cond, List, [], ◌∷◌, map, length, drop, inl, inr, refl, ap, ◌∙◌, arith}
use Rattle.std.proofs.Math.Nat.{le-div_iff_mul-le}
use Rattle.std.proofs.lemmas.Nat.{mul-le}
use Rattle.std.proofs.lemmas.Bool.{le-ltb, lt-ltb, cases_lt}
use Rattle.std.proofs.lemmas.List.{drop_all}
use Rattle.size_least.specs.Span.{budgets_of}
use Rattle.size_least.specs.Jobs.{lates_after}
use Rattle.size_least.specs.declared.job.Job.{Job}
use Rattle.size_least.proofs.Budgets.{budgets-enough, budgets-le}
use Rattle.size_least.specs.Needs.{need_after, needs_after, AllWork}
use Rattle.size_least.specs.Heights.{height_in}
use Rattle.size_least.specs.inside.Rising.{flag, summed}
use Rattle.size_least.proofs.Curve.{done-need, flip-test}

-- a need is more than so many steps high exactly where it is above the runtime that is as high
rise-one : (top v n : ℕ) → 1 ≤ top → v < 150 → min (height_in v top n + flag (budgets_of (top * (v + 1)) 150 - 1) n) 4294967295 ≡ height_in (v + 1) top n
rise-one top v n some within =
    let b = budgets_of (top * (v + 1)) 150 in
    let h = n * 150 / top in
    let times : 1 * 1 ≤ top * (v + 1) = mul-le 1 1 top (v + 1) some (omega arith) in
    let enough : top * (v + 1) ≤ b * 150 = budgets-enough (top * (v + 1)) 150 (omega arith) in
    let positive : 1 ≤ b = omega arith in
    elim (cases_lt (b - 1) n) [
      | inl above ↦
          let more : b * 150 ≤ n * 150 = mul-le b 150 n 150 (omega arith) (omega arith) in
          let high : v + 1 ≤ h = (le-div_iff_mul-le {k = top} {x = v + 1} {y = n * 150} (omega arith)).1 (omega arith) in
          rw (lt-ltb (b - 1) n above) (omega arith)
      | inr below ↦
          let low : h ≤ v = elim (cases_lt v h) [
            | inl high ↦
                let fits : (v + 1) * top ≤ n * 150 = (le-div_iff_mul-le {k = top} {x = v + 1} {y = n * 150} (omega arith)).0 (omega arith) in
                let few : b ≤ n = budgets-le (top * (v + 1)) 150 n (omega arith) (omega arith) in
                absurd (omega arith)
            | inr low ↦ low
          ] in
          rw (le-ltb (b - 1) n below) (omega arith)
    ]

pub rise : (top v : ℕ) (ns : List ℕ) → 1 ≤ top → v < 150 → summed (map (height_in v top) ns) (map (flag (budgets_of (top * (v + 1)) 150 - 1)) ns) ≡ map (height_in (v + 1) top) ns
rise top v [] some within = refl
rise top v (n ∷ ns) some within =
    ap (λ (m : ℕ). m ∷ summed (map (height_in v top) ns) (map (flag (budgets_of (top * (v + 1)) 150 - 1)) ns)) (rise-one top v n some within)
    ∙ ap (λ (ms : List ℕ). height_in (v + 1) top n ∷ ms) (rise top v ns some within)

-- nothing is high at first
pub none-high : (p top : ℕ) (past jobs : List Job) → map (λ (job : Job). 0) jobs ≡ map (height_in 0 top) (needs_after p past jobs)
none-high p top past [] = refl
none-high p top past (job ∷ jobs) =
    let zero_is : 0 ≡ height_in 0 top (need_after p job.due 0 (job ∷ past)) = omega arith in
    ap (λ (m : ℕ). m ∷ map (λ (job : Job). 0) jobs) zero_is
    ∙ ap (λ (ms : List ℕ). height_in 0 top (need_after p job.due 0 (job ∷ past)) ∷ ms) (none-high p top (job ∷ past) jobs)

need-some : (p due after : ℕ) (past : List Job) → 1 ≤ need_after p due after past
need-some p due after [] = omega arith
need-some p due after (job ∷ past) = let rest = need-some p due (job.work + after) past in omega arith

-- each job needs something
pub all-flags : (p : ℕ) (past jobs : List Job) → map (λ (job : Job). 1) jobs ≡ map (flag 0) (needs_after p past jobs)
all-flags p past [] = refl
all-flags p past (job ∷ jobs) =
    let n = need_after p job.due 0 (job ∷ past) in
    let some : 0 < n = need-some p job.due 0 (job ∷ past) in
    let one : 1 ≡ flag 0 n = rw (lt-ltb 0 n some) refl in
    ap (λ (m : ℕ). m ∷ map (λ (job : Job). 1) jobs) one
    ∙ ap (λ (ms : List ℕ). flag 0 n ∷ ms) (all-flags p (job ∷ past) jobs)

-- a job may be late with a runtime exactly where it needs more
pub late-flags : (p q : ℕ) (past jobs : List Job) → 1 ≤ q → q ≤ p → AllWork past → AllWork jobs → lates_after q p past jobs ≡ map (flag q) (needs_after p past jobs)
late-flags p q past [] some room before all = refl
late-flags p q past (job ∷ jobs) some room before all =
    let n = need_after p job.due 0 (job ∷ past) in
    let here = done-need p q job.due 0 (job ∷ past) some room (all.0, before) in
    ap (λ (b : Bool). cond b 0 1 ∷ lates_after q p (job ∷ past) jobs) here
    ∙ ap (λ (m : ℕ). m ∷ lates_after q p (job ∷ past) jobs) (flip-test n q)
    ∙ ap (λ (ms : List ℕ). flag q n ∷ ms) (late-flags p q (job ∷ past) jobs some room (all.0, before) all.1)

summed-none : (hs : List ℕ) → summed hs [] ≡ []
summed-none [] = refl
summed-none (h ∷ hs) = refl

pub sums-end : (hs ms : List ℕ) (i : ℕ) → min (length hs) (length ms) ≤ i → summed (drop i hs) (drop i ms) ≡ []
sums-end hs ms i end =
    elim (cases_lt i (length hs)) [
      | inl within ↦ rw (drop_all i ms (omega arith)) (summed-none (drop i hs))
      | inr beyond ↦ rw (drop_all i hs (omega arith)) refl
    ]
