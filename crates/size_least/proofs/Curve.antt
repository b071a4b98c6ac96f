-- Needs are the curve of late jobs.
use Rattle.std.proofs.Common.{◌≡◌, ℕ, ◌+◌, ◌-◌, ◌*◌, ◌/◌, ◌<◌, ◌≤◌, ◌↔◌, min, max, cond, ◌&&◌, ◌==◌, nat_le, nat_lt, List, [], ◌∷◌, count_by, ◌⊎◌, inl, inr, refl, sym, ap, subst, ◌∙◌, arith}
use Rattle.std.proofs.Math.Nat.{le-div_iff_mul-le, lt-div-mul-add, div-mul-le_self}
use Rattle.std.proofs.lemmas.Nat.{mul-le}
use Rattle.std.proofs.lemmas.Bool.{le-leb, lt-leb, lt-ltb, le-ltb, eq-eqb, ne_eqb, cases_lt, cases_eq}
use Rattle.std.proofs.lemmas.List.Sums.{sum_by-cons}
use Rattle.size_least.specs.Span.{budgets_of, span}
use Rattle.size_least.specs.Jobs.{is_done_by, late_after}
use Rattle.size_least.specs.declared.job.Job.{Job}
use Rattle.size_least.proofs.Budgets.{budgets-enough, budgets-le}
use Rattle.size_least.specs.Needs.{need_of, need_by, need_after, needs_after, AllWork}

times-split : (k d q p : ℕ) → p ≡ d + q → k * p ≡ k * d + k * q
times-split k d q p e = let F : ℕ → Type 0 = λ x. k * x ≡ k * d + k * q in subst F (sym e) (omega arith)

-- work is done in time in so many whole periods, or in one more that is begun early enough
In : ℕ → ℕ → ℕ → ℕ → Type 0
In p h w q = (w ≤ h) × (((0 < h / p) × (budgets_of w (h / p) ≤ q)) ⊎ (p - (h - w) / (h / p + 1) ≤ q))

span-in : (p h w q : ℕ) → 0 < w → 1 ≤ q → q ≤ p → span q p w ≤ h → In p h w q
unfolding In span
span-in p h w q work some room done =
    let n = budgets_of w q in
    let d = p - q in
    let k = h / p in
    let enough : w ≤ n * q = budgets-enough w q (omega arith) in
    let within : w ≤ h = omega arith in
    elim (cases_lt k n) [
      | inl more ↦ let times : (k + 1) * d ≤ n * d = mul-le (k + 1) d n d (omega arith) (omega arith) in
          let swapped : d * (k + 1) ≤ h - w = omega arith in
          let early : d ≤ (h - w) / (k + 1) = (le-div_iff_mul-le {k = k + 1} {x = d} {y = h - w} (omega arith)).1 swapped in
          (within, inr (omega arith))
      | inr few ↦ let times : n * q ≤ k * q = mul-le n q k q few (omega arith) in
          let positive : 0 < k = elim (cases_lt 0 k) [ inl some_k ↦ some_k | inr none ↦ (let zero_n : n ≡ 0 = omega arith in let no : n * q ≡ 0 = rw zero_n (omega arith) in absurd (omega arith)) ] in
          let swapped : w ≤ q * k = omega arith in
          (within, inl (positive, budgets-le w k q positive swapped))
    ]

in-span : (p h w q : ℕ) → 0 < w → 1 ≤ q → q ≤ p → In p h w q → span q p w ≤ h
unfolding In span
in-span p h w q work some room (within, inl whole) =
    let n = budgets_of w q in
    let d = p - q in
    let k = h / p in
    let all : w ≤ budgets_of w k * k = budgets-enough w k whole.0 in
    let more : budgets_of w k * k ≤ q * k = mul-le (budgets_of w k) k q k whole.1 (omega arith) in
    let few : n ≤ k = budgets-le w q k (omega arith) (omega arith) in
    let periods : n * p ≤ k * p = mul-le n p k p few (omega arith) in
    let fits : k * p ≤ h = div-mul-le_self h p in
    let split : n * p ≡ n * d + n * q = times-split n d q p (omega arith) in
    let enough : w ≤ n * q = budgets-enough w q (omega arith) in
    omega arith
in-span p h w q work some room (within, inr early) =
    let n = budgets_of w q in
    let d = p - q in
    let k = h / p in
    let far : d ≤ (h - w) / (k + 1) = omega arith in
    let swapped : d * (k + 1) ≤ h - w = (le-div_iff_mul-le {k = k + 1} {x = d} {y = h - w} (omega arith)).0 far in
    let above : h < k * p + p = lt-div-mul-add (omega arith) in
    let split : (k + 1) * p ≡ (k + 1) * d + (k + 1) * q = times-split (k + 1) d q p (omega arith) in
    let below : w ≤ (k + 1) * q = omega arith in
    let few : n ≤ k + 1 = budgets-le w q (k + 1) (omega arith) below in
    let times : n * d ≤ (k + 1) * d = mul-le n d (k + 1) d few (omega arith) in
    omega arith

in-need : (p h w q : ℕ) → 1 ≤ q → In p h w q → need_of p h w ≤ q
unfolding In need_of
in-need p h w q some (within, how) =
    rw (le-ltb h w within) (elim (cases_eq (h / p) 0) [
      | inl none ↦ rw (eq-eqb (h / p) 0 none) (elim how [ inl whole ↦ (let w0 = whole.0 in absurd (omega arith)) | inr early ↦ omega arith ])
      | inr some_k ↦ rw (ne_eqb (h / p) 0 some_k) (elim how [ inl whole ↦ (let le = whole.1 in omega arith) | inr early ↦ omega arith ])
    ])

need-in : (p h w q : ℕ) → q ≤ p → need_of p h w ≤ q → In p h w q
unfolding In need_of
need-in p h w q room le =
    elim (cases_lt h w) [
      | inl beyond ↦ let no : p + 1 ≤ q = rw (lt-ltb h w beyond) at le in absurd (omega arith)
      | inr within ↦ let le' : max 1 (cond ((h / p) == 0) (p - (h - w) / (h / p + 1)) (min (budgets_of w (h / p)) (p - (h - w) / (h / p + 1)))) ≤ q = rw (le-ltb h w within) at le in
          elim (cases_eq (h / p) 0) [
            | inl none ↦ let early : max 1 (p - (h - w) / (h / p + 1)) ≤ q = rw (eq-eqb (h / p) 0 none) at le' in (within, inr (omega arith))
            | inr some_k ↦ let both : max 1 (min (budgets_of w (h / p)) (p - (h - w) / (h / p + 1))) ≤ q = rw (ne_eqb (h / p) 0 some_k) at le' in
                elim (cases_lt q (budgets_of w (h / p))) [ inl more ↦ (within, inr (omega arith)) | inr few ↦ (within, inl (omega arith, few)) ]
          ]
    ]

pub need-iff : (p h w q : ℕ) → 0 < w → 1 ≤ q → q ≤ p → (span q p w ≤ h) ↔ (need_of p h w ≤ q)
need-iff p h w q work some room = (λ done. in-need p h w q some (span-in p h w q work some room done), λ le. in-span p h w q work some room (need-in p h w q room le))

-- the same from a release to a due moment, as a test
by-test : (p due release w q : ℕ) → 0 < w → 1 ≤ q → q ≤ p → nat_le (release + span q p w) due ≡ nat_le (need_by p due release w) q
by-test p due release w q work some room =
    elim (cases_lt due release) [
      | inl before ↦ rw (lt-ltb due release before) (lt-leb (release + span q p w) due (omega arith) ∙ sym (lt-leb (p + 1) q (omega arith)))
      | inr from ↦ rw (le-ltb due release from) (elim (cases_lt q (need_of p (due - release) w)) [
        | inl more ↦ elim (cases_lt due (release + span q p w)) [
          | inl late ↦ lt-leb (release + span q p w) due late ∙ sym (lt-leb (need_of p (due - release) w) q more)
          | inr done ↦ (let le = (need-iff p (due - release) w q work some room).0 (omega arith) in absurd (omega arith))
        ]
        | inr few ↦ (let done = (need-iff p (due - release) w q work some room).1 few in le-leb (release + span q p w) due (omega arith)) ∙ sym (le-leb (need_of p (due - release) w) q few)
      ])
    ]

max-test : (a b q : ℕ) → nat_le (max a b) q ≡ nat_le a q && nat_le b q
max-test a b q =
    elim (cases_lt q a) [
      | inl above ↦ rw (lt-leb a q above) (lt-leb (max a b) q (omega arith))
      | inr below ↦ rw (le-leb a q below) (elim (cases_lt q b) [
        | inl above ↦ lt-leb (max a b) q (omega arith) ∙ sym (lt-leb b q above)
        | inr below' ↦ le-leb (max a b) q (omega arith) ∙ sym (le-leb b q below')
      ])
    ]

pub done-need : (p q due after : ℕ) (past : List Job) → 1 ≤ q → q ≤ p → AllWork past → is_done_by q p due after past ≡ nat_le (need_after p due after past) q
done-need p q due after [] some room all = sym (le-leb 1 q some)
done-need p q due after (job ∷ past) some room all =
    let work = all.0 in
    let head = by-test p due job.release (job.work + after) q (omega arith) some room in
    let tail = done-need p q due (job.work + after) past some room all.1 in
    rw (head, tail) (sym (max-test (need_by p due job.release (job.work + after)) (need_after p due (job.work + after) past) q))

pub flip-test : (n q : ℕ) → ◌≡◌ {A = ℕ} (cond (nat_le n q) 0 1) (cond (nat_lt q n) 1 0)
flip-test n q =
    elim (cases_lt q n) [
      | inl above ↦ rw (lt-leb n q above) (rw (lt-ltb q n above) refl)
      | inr below ↦ rw (le-leb n q below) (rw (le-ltb q n below) refl)
    ]

pub late-needs : (p q : ℕ) (past jobs : List Job) → 1 ≤ q → q ≤ p → AllWork past → AllWork jobs → late_after q p past jobs ≡ count_by (λ n. nat_lt q n) (needs_after p past jobs)
late-needs p q past [] some room before all = refl
late-needs p q past (job ∷ jobs) some room before all =
    let here = done-need p q job.due 0 (job ∷ past) some room (all.0, before) in
    let rest = late-needs p q (job ∷ past) jobs some room (all.0, before) all.1 in
    let n = need_after p job.due 0 (job ∷ past) in
    ap (λ b. cond b 0 1 + late_after q p (job ∷ past) jobs) here
    ∙ ap (λ m. m + late_after q p (job ∷ past) jobs) (flip-test n q)
    ∙ ap (λ m. cond (nat_lt q n) 1 0 + m) rest
    ∙ sym (sum_by-cons (λ (x : ℕ). cond (nat_lt q x) 1 0) n (needs_after p (job ∷ past) jobs))
