-- A server that was renewed at the release of a job is done with the work since then in time.
use Rattle.std.proofs.Common.{◌≡◌, ℕ, ◌+◌, ◌-◌, ◌*◌, ◌/◌, ◌<◌, ◌≤◌, ◌^◌, max, Bool, true, false, cond, nat_le, nat_lt, List, [], ◌∷◌, sum_by, Some, None, ◌⊎◌, inl, inr, refl, sym, ap, subst, arith}
use Rattle.std.proofs.lemmas.Nat.{mul-le, div-mul-add}
use Rattle.std.proofs.lemmas.Bool.{leb-true, lt-ltb, and_parts, cases_lt}
use Rattle.std.proofs.lemmas.List.Sums.{sum_by-cons}
use Rattle.grub_book.specs.Bandwidth.{Reservation}
use Rattle.grub_book.specs.Server.{fresh_of, woken_of, recharges_of, depleted_of}
use Rattle.grub_book.specs.declared.server.Server.{Server}
use Rattle.size_least.specs.Span.{budgets_of, span}
use Rattle.size_least.specs.Jobs.{is_done_by}
use Rattle.size_least.specs.declared.job.Job.{Job}
use Rattle.size_least.proofs.Budgets.{budgets-enough}
use Rattle.size_least.specs.Plays.{Run, Runs, Follow, Begins, Does, Plays, PlaysFresh, EndInTime}

-- since a renewal at a moment r so many periods are begun, and what is paid is at most what ran
record Since (p : Reservation) (s : Server) (r work : ℕ) : Type 0 where
  begun : ℕ
  deadline : s.d ≡ r + begun * p.period
  paid : begun * p.runtime ≤ s.q + work
  some : 1 ≤ s.q
  most : s.q ≤ p.runtime

-- the renewal was at the release of one of the jobs, the newest first, and `after` is the work behind them
abbrev Renewed : Reservation → Server → ℕ → List Job → Type 0
Renewed p s after [] = ⊥
Renewed p s after (job ∷ past) = Since p s job.release (job.work + after) ⊎ Renewed p s (job.work + after) past

refilled_is : (b : Bool) (x y : ℕ × Server) → cond b (Some x) None ≡ Some y → x.1 ≡ y.1
refilled_is true x y is = cc
refilled_is false x y is = absurd cc

pub no_refill : (n runtime : ℕ) → n < runtime → n / runtime ≡ 0
no_refill n runtime lt = let P : ℕ → Type 0 = λ x. x / runtime ≡ 0 in let e : 0 * runtime + n ≡ n = omega arith in subst P e (div-mul-add 0 runtime n lt)

pub one_refill : (runtime : ℕ) → 1 ≤ runtime → runtime / runtime ≡ 1
one_refill runtime some = let P : ℕ → Type 0 = λ x. x / runtime ≡ 1 in let e : 1 * runtime + 0 ≡ runtime = omega arith in subst P e (div-mul-add 1 runtime 0 (omega arith))

-- what a run leaves
record Left (p : Reservation) (s : Server) (paid : ℕ) (t : Server) : Type 0 where
  times : ℕ
  budget : t.q + paid ≡ s.q + times * p.runtime
  deadline : t.d ≡ s.d + times * p.period
  some : 1 ≤ t.q
  most : t.q ≤ p.runtime
  refilled : (times ≡ 0) ⊎ (paid ≡ s.q)

left_of : (p : Reservation) (s t : Server) (paid count : ℕ) → 1 ≤ p.runtime → 1 ≤ s.q → s.q ≤ p.runtime → paid ≤ s.q → depleted_of s p paid ≡ Some (count, t) → Left p s paid t
left_of p s t paid count some q_some q_most within is =
    let n = recharges_of s p paid in
    let same : record { q = s.q + n * p.runtime - paid; d = s.d + n * p.period } ≡ t = refilled_is (nat_lt (s.d + n * p.period) (2 ^ 32)) (n, record { q = s.q + n * p.runtime - paid; d = s.d + n * p.period }) (count, t) is in
    let tq : t.q ≡ s.q + n * p.runtime - paid = sym (ap (λ (x : Server). x.q) same) in
    let td : t.d ≡ s.d + n * p.period = sym (ap (λ (x : Server). x.d) same) in
    elim (cases_lt paid s.q) [
      | inl lt ↦ let none : n ≡ 0 = no_refill (paid + (p.runtime - s.q)) p.runtime (omega arith) in
          let q' : t.q ≡ s.q + 0 * p.runtime - paid = rw (← none) tq in
          let d' : t.d ≡ s.d + 0 * p.period = rw (← none) td in
          record { times = 0; budget = omega arith; deadline = d'; some = omega arith; most = omega arith; refilled = inl refl }
      | inr ge ↦ let whole : paid + (p.runtime - s.q) ≡ p.runtime = omega arith in
          let one : n ≡ 1 = rw whole (one_refill p.runtime some) in
          let q' : t.q ≡ s.q + 1 * p.runtime - paid = rw (← one) tq in
          let d' : t.d ≡ s.d + 1 * p.period = rw (← one) td in
          record { times = 1; budget = omega arith; deadline = d'; some = omega arith; most = omega arith; refilled = inr (omega arith) }
    ]

pub times-split : (k d q p : ℕ) → p ≡ d + q → k * p ≡ k * d + k * q
times-split k d q p e = let F : ℕ → Type 0 = λ x. k * x ≡ k * d + k * q in subst F (sym e) (omega arith)

-- a run goes on from a renewal
since-run : (p : Reservation) (s t : Server) (m release work : ℕ) (r : Run) → 1 ≤ p.runtime → Since p s release work → Runs p s m r t → Since p t release (work + r.took)
since-run p s t m release work r some since runs =
    let left = left_of p s t r.paid runs.count some since.some since.most runs.within runs.refilled in
    let pays = runs.pays in
    let paid = since.paid in
    let budget = left.budget in
    record {
      begun = since.begun + left.times;
      deadline = let a = since.deadline in let b = left.deadline in omega arith;
      paid = omega arith;
      some = left.some;
      most = left.most;
    }

-- and ends by the most that its work takes
run-ends : (p : Reservation) (s t : Server) (m release work : ℕ) (r : Run) → 1 ≤ p.runtime → p.runtime ≤ p.period → Since p s release work → Runs p s m r t
    → r.end ≤ release + span p.runtime p.period (work + r.took)
unfolding span
run-ends p s t m release work r some room since runs =
    let k = since.begun in
    let d = p.period - p.runtime in
    let b = budgets_of (work + r.took) p.runtime in
    let all : work + r.took ≤ b * p.runtime = budgets-enough (work + r.took) p.runtime (omega arith) in
    let paid : k * p.runtime ≤ s.q + work = since.paid in
    let most : s.q ≤ p.runtime = since.most in
    let took : 1 ≤ r.took = runs.some in
    let enough : k ≤ b = elim (cases_lt b k) [
      | inl lt ↦ let times : (b + 1) * p.runtime ≤ k * p.runtime = mul-le (b + 1) p.runtime k p.runtime (omega arith) (omega arith) in absurd (omega arith)
      | inr le ↦ le
    ] in
    let more : k * d ≤ b * d = mul-le k d b d enough (omega arith) in
    let whole : p.period ≡ d + p.runtime = omega arith in
    let split : k * p.period ≡ k * d + k * p.runtime = times-split k d p.runtime p.period whole in
    let deadline : s.d ≡ release + k * p.period = since.deadline in
    let had : r.end + (s.q - r.paid) ≤ s.d = runs.had in
    let pays : r.paid ≤ r.took = runs.pays in
    let within : r.paid ≤ s.q = runs.within in
    omega arith

-- the runs of some work, whichever of the jobs the renewal is of
renewed-run : (p : Reservation) (s t : Server) (m after : ℕ) (r : Run) (past : List Job) → 1 ≤ p.runtime → Renewed p s after past → Runs p s m r t → Renewed p t (after + r.took) past
renewed-run p s t m after r [] some renewed runs = renewed
renewed-run p s t m after r (job ∷ past) some (inl since) runs =
    let P : ℕ → Type 0 = λ n. Since p t job.release n in
    let e : job.work + after + r.took ≡ job.work + (after + r.took) = omega arith in
    inl (subst P e (since-run p s t m job.release (job.work + after) r some since runs))
renewed-run p s t m after r (job ∷ past) some (inr renewed) runs =
    let P : ℕ → Type 0 = λ n. Renewed p t n past in
    let e : job.work + after + r.took ≡ job.work + (after + r.took) = omega arith in
    inr (subst P e (renewed-run p s t m (job.work + after) r past some renewed runs))

run-done : (p : Reservation) (s t : Server) (m after due : ℕ) (r : Run) (past : List Job) → 1 ≤ p.runtime → p.runtime ≤ p.period → Renewed p s after past → Runs p s m r t
    → is_done_by p.runtime p.period due (after + r.took) past ≡ true → r.end ≤ due
run-done p s t m after due r [] some room renewed runs in_time = absurd renewed
run-done p s t m after due r (job ∷ past) some room (inl since) runs in_time =
    let parts = and_parts (nat_le (job.release + span p.runtime p.period (job.work + (after + r.took))) due) (is_done_by p.runtime p.period due (job.work + (after + r.took)) past) in_time in
    let first = leb-true (job.release + span p.runtime p.period (job.work + (after + r.took))) due parts.0 in
    let P : ℕ → Type 0 = λ n. r.end ≤ job.release + span p.runtime p.period n in
    let e : job.work + after + r.took ≡ job.work + (after + r.took) = omega arith in
    let ends = subst P e (run-ends p s t m job.release (job.work + after) r some room since runs) in
    omega arith
run-done p s t m after due r (job ∷ past) some room (inr renewed) runs in_time =
    let parts = and_parts (nat_le (job.release + span p.runtime p.period (job.work + (after + r.took))) due) (is_done_by p.runtime p.period due (job.work + (after + r.took)) past) in_time in
    let P : ℕ → Type 0 = λ n. is_done_by p.runtime p.period due n past ≡ true in
    let e : job.work + (after + r.took) ≡ job.work + after + r.took = omega arith in
    run-done p s t m (job.work + after) due r past some room renewed runs (subst P e parts.1)

-- all runs of a job
follow-renewed : (p : Reservation) (rs : List Run) (s u : Server) (m end after : ℕ) (past : List Job) → 1 ≤ p.runtime → Renewed p s after past → Follow p rs s m u end
    → Renewed p u (after + sum_by (λ (r : Run). r.took) rs) past
follow-renewed p [] s u m end after past some renewed runs =
    let P : Server → Type 0 = λ x. Renewed p x (after + 0) past in
    let Q : ℕ → Type 0 = λ n. Renewed p s n past in
    let e : after ≡ after + 0 = omega arith in
    subst P (sym runs.0) (subst Q e renewed)
follow-renewed p (r ∷ rs) s u m end after past some renewed runs =
    let next = renewed-run p s runs.0 m after r past some renewed runs.1 in
    let rest = follow-renewed p rs runs.0 u r.end end (after + r.took) past some next runs.2 in
    let P : ℕ → Type 0 = λ n. Renewed p u n past in
    let e : after + r.took + sum_by (λ (r : Run). r.took) rs ≡ after + sum_by (λ (r : Run). r.took) (r ∷ rs) = omega (arith, sum_by-cons (λ (r : Run). r.took) r rs) in
    subst P e rest

abbrev ran : List Run → ℕ
ran rs = sum_by (λ (r : Run). r.took) rs

-- all runs of a job, from a renewal on
follow-since : (p : Reservation) (r : Run) (rs : List Run) (s u : Server) (m end release work : ℕ) → 1 ≤ p.runtime → p.runtime ≤ p.period → Since p s release work → Follow p (r ∷ rs) s m u end
    → Since p u release (work + ran (r ∷ rs)) × (end ≤ release + span p.runtime p.period (work + ran (r ∷ rs)))
follow-since p r [] s u m end release work some room since runs =
    let next = since-run p s runs.0 m release work r some since runs.1 in
    let ends = run-ends p s runs.0 m release work r some room since runs.1 in
    let e : work + r.took ≡ work + ran (r ∷ []) = omega (arith, sum_by-cons (λ (r : Run). r.took) r []) in
    let P : Server → Type 0 = λ x. Since p x release (work + r.took) in
    let R : ℕ → Type 0 = λ n. Since p u release n in
    let E : ℕ → Type 0 = λ n. end ≤ release + span p.runtime p.period n in
    let last : end ≤ release + span p.runtime p.period (work + r.took) = (let is : end ≡ r.end = runs.2.1 in omega arith) in
    (subst R e (subst P (sym runs.2.0) next), subst E e last)
follow-since p r (q ∷ rs) s u m end release work some room since runs =
    let next = since-run p s runs.0 m release work r some since runs.1 in
    let rest = follow-since p q rs runs.0 u r.end end release (work + r.took) some room next runs.2 in
    let e : work + r.took + ran (q ∷ rs) ≡ work + ran (r ∷ q ∷ rs) = omega (arith, sum_by-cons (λ (r : Run). r.took) r (q ∷ rs)) in
    let R : ℕ → Type 0 = λ n. Since p u release n × (end ≤ release + span p.runtime p.period n) in
    subst R e rest

follow-done : (p : Reservation) (r : Run) (rs : List Run) (s u : Server) (m end after due : ℕ) (past : List Job) → 1 ≤ p.runtime → p.runtime ≤ p.period → Renewed p s after past → Follow p (r ∷ rs) s m u end
    → is_done_by p.runtime p.period due (after + ran (r ∷ rs)) past ≡ true → end ≤ due
follow-done p r [] s u m end after due past some room renewed runs in_time =
    let e : after + ran (r ∷ []) ≡ after + r.took = omega (arith, sum_by-cons (λ (r : Run). r.took) r []) in
    let P : ℕ → Type 0 = λ n. is_done_by p.runtime p.period due n past ≡ true in
    let ends = run-done p s runs.0 m after due r past some room renewed runs.1 (subst P e in_time) in
    let is : end ≡ r.end = runs.2.1 in
    omega arith
follow-done p r (q ∷ rs) s u m end after due past some room renewed runs in_time =
    let next = renewed-run p s runs.0 m after r past some renewed runs.1 in
    let e : after + ran (r ∷ q ∷ rs) ≡ after + r.took + ran (q ∷ rs) = omega (arith, sum_by-cons (λ (r : Run). r.took) r (q ∷ rs)) in
    let P : ℕ → Type 0 = λ n. is_done_by p.runtime p.period due n past ≡ true in
    follow-done p q rs runs.0 u r.end end (after + r.took) due past some room next runs.2 (subst P e in_time)

-- a job begins with a server that is renewed at its release, or goes on from one before
abbrev Starts : Reservation → Server → Job → List Job → Type 0
Starts p t job past = Since p t job.release 0 ⊎ Renewed p t 0 past

renewed-fresh : (p : Reservation) (release : ℕ) → 1 ≤ p.runtime → Since p (record { q = p.runtime; d = release + p.period }) release 0
renewed-fresh p release some = record { begun = 1; deadline = omega arith; paid = omega arith; some = some; most = omega arith }

woken-starts : (b : Bool) (p : Reservation) (s t : Server) (job : Job) (past : List Job) → 1 ≤ p.runtime → Renewed p s 0 past → t ≡ cond b (record { q = p.runtime; d = job.release + p.period }) s → Starts p t job past
woken-starts true p s t job past some renewed is = let P : Server → Type 0 = λ x. Since p x job.release 0 in inl (subst P (sym is) (renewed-fresh p job.release some))
woken-starts false p s t job past some renewed is = let P : Server → Type 0 = λ x. Renewed p x 0 past in inr (subst P (sym is) renewed)

begins-starts : (p : Reservation) (s t : Server) (m : ℕ) (job : Job) (past : List Job) → 1 ≤ p.runtime → Renewed p s 0 past → Begins p s m job t → Starts p t job past
begins-starts p s t m job past some renewed (inl h) = woken-starts (nat_lt (s.d * p.runtime) (s.q * p.period + job.release * p.runtime)) p s t job past some renewed h.1
begins-starts p s t m job past some renewed (inr h) = let P : Server → Type 0 = λ x. Renewed p x 0 past in inr (subst P (sym h.1) renewed)

fresh-starts : (p : Reservation) (job : Job) (past : List Job) → 1 ≤ p.runtime → p.runtime ≤ p.period → Starts p (woken_of (fresh_of p) p job.release) job past
fresh-starts p job past some room =
    let some' : 1 * 1 ≤ p.runtime * p.period = mul-le 1 1 p.runtime p.period some (omega arith) in
    let test : nat_lt (0 * p.runtime) (p.runtime * p.period + job.release * p.runtime) ≡ true = lt-ltb (0 * p.runtime) (p.runtime * p.period + job.release * p.runtime) (omega arith) in
    let P : Server → Type 0 = λ x. Since p x job.release 0 in
    inl (rw test (renewed-fresh p job.release some))

-- what a job leaves, and when it ends
job-done : (p : Reservation) (t u : Server) (m end : ℕ) (job : Job) (past : List Job) (rs : List Run) → 1 ≤ p.runtime → p.runtime ≤ p.period → Starts p t job past → Does p t m job rs u end
    → Renewed p u 0 (job ∷ past) × (is_done_by p.runtime p.period job.due 0 (job ∷ past) ≡ true → end ≤ job.due)
job-done p t u m end job past [] some room starts does = let a = does.some in let b = does.work in absurd (omega arith)
job-done p t u m end job past (r ∷ rs) some room (inl since) does =
    let both = follow-since p r rs t u (max m job.release) end job.release 0 some room since does.runs in
    let e : 0 + ran (r ∷ rs) ≡ job.work + 0 = (let h = does.work in omega arith) in
    let P : ℕ → Type 0 = λ n. Since p u job.release n × (end ≤ job.release + span p.runtime p.period n) in
    let made = subst P e both in (
      inl made.0,
      λ in_time.
          let parts = and_parts (nat_le (job.release + span p.runtime p.period (job.work + 0)) job.due) (is_done_by p.runtime p.period job.due (job.work + 0) past) in_time in
          let first = leb-true (job.release + span p.runtime p.period (job.work + 0)) job.due parts.0 in
          let ends = made.1 in
          omega arith,
    )
job-done p t u m end job past (r ∷ rs) some room (inr renewed) does =
    let e : 0 + ran (r ∷ rs) ≡ job.work + 0 = (let h = does.work in omega arith) in
    let P : ℕ → Type 0 = λ n. Renewed p u n past in
    let D : ℕ → Type 0 = λ n. is_done_by p.runtime p.period job.due n past ≡ true in (
      inr (subst P e (follow-renewed p (r ∷ rs) t u (max m job.release) end 0 past some renewed does.runs)),
      λ in_time.
          let parts = and_parts (nat_le (job.release + span p.runtime p.period (job.work + 0)) job.due) (is_done_by p.runtime p.period job.due (job.work + 0) past) in_time in
          follow-done p r rs t u (max m job.release) end 0 job.due past some room renewed does.runs (subst D (sym e) parts.1),
    )

plays-end : (p : Reservation) (past jobs : List Job) (runs : List (List Run)) (s : Server) (m : ℕ) (ends : List ℕ) → 1 ≤ p.runtime → p.runtime ≤ p.period → Renewed p s 0 past → Plays p jobs runs s m ends → EndInTime p past jobs ends
plays-end p past [] runs s m ends some room renewed plays = tt
plays-end p past (job ∷ jobs) [] s m ends some room renewed plays = absurd plays
plays-end p past (job ∷ jobs) (rs ∷ runs) s m [] some room renewed plays = tt
plays-end p past (job ∷ jobs) (rs ∷ runs) s m (end ∷ ends) some room renewed plays =
    let starts = begins-starts p s plays.0 m job past some renewed plays.2 in
    let made = job-done p plays.0 plays.1 m end job past rs some room starts plays.3 in
    (made.1, plays-end p (job ∷ past) jobs runs plays.1 end ends some room made.0 plays.4)

pub fresh-end : (p : Reservation) (past jobs : List Job) (runs : List (List Run)) (ends : List ℕ) → 1 ≤ p.runtime → p.runtime ≤ p.period → PlaysFresh p jobs runs ends → EndInTime p past jobs ends
fresh-end p past [] runs ends some room plays = tt
fresh-end p past (job ∷ jobs) [] ends some room plays = absurd plays
fresh-end p past (job ∷ jobs) (rs ∷ runs) [] some room plays = tt
fresh-end p past (job ∷ jobs) (rs ∷ runs) (end ∷ ends) some room plays =
    let starts = fresh-starts p job past some room in
    let made = job-done p (woken_of (fresh_of p) p job.release) plays.0 0 end job past rs some room starts plays.1 in
    (made.1, plays-end p (job ∷ past) jobs runs plays.0 end ends some room made.0 plays.2)
