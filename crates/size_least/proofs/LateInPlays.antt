-- A play in which each budget is had as late as may be: where a job is not in time, it ends late in the play from the last job on from which its work takes too long.
use Rattle.std.proofs.Common.{◌≡◌, ℕ, zero, suc, ◌+◌, ◌-◌, ◌*◌, ◌/◌, ◌<◌, ◌≤◌, ◌^◌, max, Bool, true, false, cond, nat_le, nat_lt, List, [], ◌∷◌, ◌++◌, sum_by, Some, None, inl, inr, refl, sym, ap, subst, ◌∙◌, arith}
use Rattle.std.proofs.lemmas.Nat.{mul-le}
use Rattle.std.proofs.lemmas.Bool.{leb-true, le-leb, lt-leb, lt-ltb, cases_lt}
use Rattle.std.proofs.lemmas.List.Sums.{sum_by-cons}
use Rattle.grub_book.specs.Bandwidth.{Reservation}
use Rattle.grub_book.specs.Server.{depleted_of, fresh_of, recharges_of, woken_of}
use Rattle.grub_book.specs.declared.server.Server.{Server}
use Rattle.size_least.specs.Span.{budgets_of, span}
use Rattle.size_least.specs.Jobs.{is_done_by}
use Rattle.size_least.specs.Needs.{AllWork}
use Rattle.size_least.specs.declared.job.Job.{Job}
use Rattle.size_least.proofs.Budgets.{budgets-enough, budgets-grow, budgets-is, budgets-le, budgets-zero}
use Rattle.size_least.specs.Plays.{Begins, Does, EndsLate, Follow, HaveRoom, Plays, PlaysFresh, Run, Runs, onto}
use Rattle.size_least.proofs.Renewed.{no_refill, one_refill, times-split}

abbrev work_of : List Job → ℕ
work_of [] = 0
work_of (job ∷ jobs) = job.work + work_of jobs

abbrev ran : List Run → ℕ
ran rs = sum_by (λ (r : Run). r.took) rs

-- each is in time from itself on
abbrev OnTime : Reservation → ℕ → List Job → Type 0
OnTime p due [] = Unit {0}
OnTime p due (job ∷ jobs) = (job.release + span p.runtime p.period (work_of (job ∷ jobs)) ≤ due) × OnTime p due jobs

span-add : (q p a b : ℕ) → 1 ≤ q → span q p (a + b) ≤ span q p a + span q p b
unfolding span
span-add q p a b some =
    let pos : 0 < q = omega arith in
    let x = budgets_of a q in
    let y = budgets_of b q in
    let first : a ≤ x * q = budgets-enough a q pos in
    let second : b ≤ y * q = budgets-enough b q pos in
    let few : budgets_of (a + b) q ≤ x + y = budgets-le (a + b) q (x + y) pos (omega arith) in
    let times : budgets_of (a + b) q * (p - q) ≤ (x + y) * (p - q) = mul-le (budgets_of (a + b) q) (p - q) (x + y) (p - q) few (omega arith) in
    omega arith

span-zero : (q p : ℕ) → 1 ≤ q → span q p 0 ≡ 0
unfolding span
span-zero q p some = let pos : 0 < q = omega arith in rw (budgets-zero q pos) (omega arith)

-- the refill at a run of 1, of which one is left at least
record Refill (p : Reservation) (s : Server) (n : ℕ) : Type 0 where
  period : n * p.period ≤ p.period
  some : 1 ≤ s.q + n * p.runtime - 1
  most : s.q + n * p.runtime - 1 ≤ p.runtime

refill : (p : Reservation) (s : Server) → 1 ≤ p.runtime → 1 ≤ s.q → s.q ≤ p.runtime → Refill p s (recharges_of s p 1)
refill p s some left most =
    elim (cases_lt 1 s.q) [
      | inl lt ↦ let none : recharges_of s p 1 ≡ 0 = no_refill (1 + (p.runtime - s.q)) p.runtime (omega arith) in
          subst (λ (n : ℕ). Refill p s n) (sym none) (record { period = omega arith; some = omega arith; most = omega arith })
      | inr ge ↦ let whole : 1 + (p.runtime - s.q) ≡ p.runtime = omega arith in
          let one : recharges_of s p 1 ≡ 1 = rw whole (one_refill p.runtime some) in
          subst (λ (n : ℕ). Refill p s n) (sym one) (record { period = omega arith; some = omega arith; most = omega arith })
    ]

taken_if : (b : Bool) (x : ℕ × Server) → b ≡ true → cond b (Some x) None ≡ Some x
taken_if true x is = refl
taken_if false x is = absurd cc

module _ (p : Reservation) (positive : 0 < p.runtime) (within : p.runtime ≤ p.period) (r : ℕ) where
  -- so much work was done since a renewal, each budget as late as may be
  record Late (w : ℕ) (s : Server) (m : ℕ) : Type 0 where
    begun : ℕ
    deadline : s.d ≡ r + (begun + 1) * p.period
    budget : s.q + w ≡ (begun + 1) * p.runtime
    some : 1 ≤ s.q
    most : s.q ≤ p.runtime
    moment : m ≡ r + span p.runtime p.period w

  abbrev Room : ℕ → Type 0
  Room w = r + (budgets_of w p.runtime + 1) * p.period < 2 ^ 32

  room-less : (a b : ℕ) → a ≤ b → Room b → Room a
  room-less a b le h =
      let few = budgets-grow a b p.runtime positive le in
      let times : (budgets_of a p.runtime + 1) * p.period ≤ (budgets_of b p.runtime + 1) * p.period = mul-le (budgets_of a p.runtime + 1) p.period (budgets_of b p.runtime + 1) p.period (omega arith) (omega arith) in
      omega arith

  record Stepped (w : ℕ) (s : Server) (m : ℕ) : Type 0 where
    run : Run
    next : Server
    one : run.took ≡ 1
    runs : Runs p s m run next
    late : Late (w + 1) next run.end

  -- a run of 1 more
  stepped : (w : ℕ) (s : Server) (m : ℕ) → Late w s m → Room (w + 1) → Stepped w s m
  unfolding span
  stepped w s m late fits =
      let k = late.begun in
      let d = p.period - p.runtime in
      let n = recharges_of s p 1 in
      let left = refill p s (omega arith) late.some late.most in
      let deadline : s.d ≡ r + (k + 1) * p.period = late.deadline in
      let budget : s.q + w ≡ (k + 1) * p.runtime = late.budget in
      let one : 1 ≤ s.q = late.some in
      let most : s.q ≤ p.runtime = late.most in
      let count : budgets_of (w + 1) p.runtime ≡ k + 1 = budgets-is (w + 1) p.runtime (k + 1) positive (omega arith) (omega arith) in
      let F : ℕ → Type 0 = λ x. r + (x + 1) * p.period < 2 ^ 32 in
      let fits' : r + (k + 1 + 1) * p.period < 2 ^ 32 = subst F count fits in
      let before : budgets_of w p.runtime ≤ k + 1 = budgets-le w p.runtime (k + 1) positive (omega arith) in
      let times : budgets_of w p.runtime * d ≤ (k + 1) * d = mul-le (budgets_of w p.runtime) d (k + 1) d before (omega arith) in
      let whole : p.period ≡ d + p.runtime = omega arith in
      let split : (k + 1) * p.period ≡ (k + 1) * d + (k + 1) * p.runtime = times-split (k + 1) d p.runtime p.period whole in
      let moment : m ≡ r + (budgets_of w p.runtime * d + w) = late.moment in
      let counted : budgets_of (w + 1) p.runtime * d ≡ (k + 1) * d = ap (λ (x : ℕ). x * d) count in
      let period : n * p.period ≤ p.period = left.period in
      let some' : 1 ≤ s.q + n * p.runtime - 1 = left.some in
      let most' : s.q + n * p.runtime - 1 ≤ p.runtime = left.most in
      let below : s.d + n * p.period < 2 ^ 32 = omega arith in
      record {
        run = record { took = 1; paid = 1; end = s.d - (s.q - 1) };
        next = record { q = s.q + n * p.runtime - 1; d = s.d + n * p.period };
        one = refl;
        runs = record {
          some = omega arith;
          pays = omega arith;
          within = one;
          takes = omega arith;
          had = omega arith;
          count = n;
          refilled = taken_if (nat_lt (s.d + n * p.period) (2 ^ 32)) (n, record { q = s.q + n * p.runtime - 1; d = s.d + n * p.period }) (lt-ltb (s.d + n * p.period) (2 ^ 32) below);
        };
        late = record {
          begun = k + n;
          deadline = omega arith;
          budget = omega arith;
          some = some';
          most = most';
          moment = omega arith;
        };
      }

  record Worked (x w : ℕ) (s : Server) (m : ℕ) : Type 0 where
    runs : List Run
    next : Server
    end : ℕ
    all : ran runs ≡ x
    follow : Follow p runs s m next end
    late : Late (w + x) next end

  -- so much work more
  worked : (x w : ℕ) (s : Server) (m : ℕ) → Late w s m → Room (w + x) → Worked x w s m
  worked zero w s m late fits =
      let e : w ≡ w + 0 = omega arith in
      record { runs = []; next = s; end = m; all = refl; follow = (refl, refl); late = subst (λ (n : ℕ). Late n s m) e late }
  worked (suc x) w s m late fits =
      let first = stepped w s m late (room-less (w + 1) (w + suc x) (omega arith) fits) in
      let e : w + 1 + x ≡ w + suc x = omega arith in
      let rest = worked x (w + 1) first.next first.run.end first.late (subst Room (sym e) fits) in
      let one : first.run.took ≡ 1 = first.one in
      let all : ran rest.runs ≡ x = rest.all in
      record {
        runs = first.run ∷ rest.runs;
        next = rest.next;
        end = rest.end;
        all = omega (arith, sum_by-cons (λ (r : Run). r.took) first.run rest.runs);
        follow = (first.next, first.runs, rest.follow);
        late = subst (λ (n : ℕ). Late n rest.next rest.end) e rest.late;
      }

  -- each job is released before the work until then is done
  abbrev Fits : ℕ → List Job → Type 0
  Fits w [] = Unit {0}
  Fits w (job ∷ jobs) = (job.release ≤ r + span p.runtime p.period w) × Fits (w + job.work) jobs

  record Played (w : ℕ) (jobs : List Job) (s : Server) (m : ℕ) : Type 0 where
    runs : List (List Run)
    ends : List ℕ
    before : List ℕ
    plays : Plays p jobs runs s m ends
    last : m ∷ ends ≡ before ++ (r + span p.runtime p.period (w + work_of jobs)) ∷ []

  played : (jobs : List Job) (w : ℕ) (s : Server) (m : ℕ) → AllWork jobs → Fits w jobs → Late w s m → Room (w + work_of jobs) → Played w jobs s m
  played [] w s m work fits late has =
      let e : w ≡ w + 0 = omega arith in
      record { runs = []; ends = []; before = []; plays = refl; last = ap (λ (x : ℕ). x ∷ []) (late.moment ∙ ap (λ (x : ℕ). r + span p.runtime p.period x) e) }
  played (job ∷ jobs) w s m work fits late has =
      let some_work : 0 < job.work = work.0 in
      let one = worked job.work w s m late (room-less (w + job.work) (w + (job.work + work_of jobs)) (omega arith) has) in
      let e : w + (job.work + work_of jobs) ≡ w + job.work + work_of jobs = omega arith in
      let rest = played jobs (w + job.work) one.next one.end work.1 fits.1 one.late (subst Room e has) in
      let released : job.release ≤ m = (let moment = late.moment in let by = fits.0 in omega arith) in
      let same : m ≡ max m job.release = omega arith in
      record {
        runs = one.runs ∷ rest.runs;
        ends = one.end ∷ rest.ends;
        before = m ∷ rest.before;
        plays = (
          s,
          one.next,
          inr (released, refl),
          record { some = omega arith; work = one.all; runs = subst (λ (x : ℕ). Follow p one.runs s x one.next one.end) same one.follow },
          rest.plays,
        );
        last = ap (λ (xs : List ℕ). m ∷ xs) rest.last ∙ ap (λ (x : ℕ). m ∷ (rest.before ++ (r + span p.runtime p.period x) ∷ [])) (sym e);
      }

  fits-late : (due w : ℕ) (jobs : List Job) → due < r + span p.runtime p.period (w + work_of jobs) → OnTime p due jobs → Fits w jobs
  fits-late due w [] late on = tt
  fits-late due w (job ∷ jobs) late on =
      let e : w + (job.work + work_of jobs) ≡ w + job.work + work_of jobs = omega arith in
      let add = span-add p.runtime p.period w (job.work + work_of jobs) (omega arith) in
      let by : job.release + span p.runtime p.period (job.work + work_of jobs) ≤ due = on.0 in (
        elim (cases_lt (r + span p.runtime p.period w) job.release) [ inl lt ↦ absurd (omega arith) | inr le ↦ le ],
        fits-late due (w + job.work) jobs (subst (λ (x : ℕ). due < r + span p.runtime p.period x) e late) on.1,
      )

module _ (p : Reservation) (positive : 0 < p.runtime) (within : p.runtime ≤ p.period) where
  begins-fresh : (release : ℕ) → woken_of (fresh_of p) p release ≡ record { q = p.runtime; d = release + p.period }
  begins-fresh release =
      let times : 1 * 1 ≤ p.runtime * p.period = mul-le 1 1 p.runtime p.period (omega arith) (omega arith) in
      let test : nat_lt (0 * p.runtime) (p.runtime * p.period + release * p.runtime) ≡ true = lt-ltb (0 * p.runtime) (p.runtime * p.period + release * p.runtime) (omega arith) in
      rw test refl

  late-fresh : (release : ℕ) → Late p positive within release 0 (record { q = p.runtime; d = release + p.period }) release
  late-fresh release =
      let none = span-zero p.runtime p.period (omega arith) in
      record { begun = 0; deadline = omega arith; budget = omega arith; some = omega arith; most = omega arith; moment = omega arith }

  -- a play from a job on, as late as may be
  ends_late : (due : ℕ) (job : Job) (jobs before : List Job) → AllWork (job ∷ jobs) → OnTime p due jobs → due < job.release + span p.runtime p.period (job.work + work_of jobs)
      → Room p positive within job.release (job.work + work_of jobs) → EndsLate p due (onto (job ∷ jobs) before)
  ends_late due job jobs before work on late has =
      let some_work : 0 < job.work = work.0 in
      let e : 0 + job.work ≡ job.work = omega arith in
      let one = worked p positive within job.release job.work 0 (record { q = p.runtime; d = job.release + p.period }) job.release (late-fresh job.release) (room-less p positive within job.release (0 + job.work) (job.work + work_of jobs) (omega arith) has) in
      let done : Late p positive within job.release job.work one.next one.end = subst (λ (x : ℕ). Late p positive within job.release x one.next one.end) e one.late in
      let rest = played p positive within job.release jobs job.work one.next one.end work.1 (fits-late p positive within job.release due job.work jobs late on) done has in
      let same : job.release ≡ max 0 job.release = omega arith in
      let does : Does p (record { q = p.runtime; d = job.release + p.period }) 0 job one.runs one.next one.end = record { some = omega arith; work = one.all; runs = subst (λ (x : ℕ). Follow p one.runs (record { q = p.runtime; d = job.release + p.period }) x one.next one.end) same one.follow } in
      let plays : PlaysFresh p (job ∷ jobs) (one.runs ∷ rest.runs) (one.end ∷ rest.ends) = (one.next, subst (λ (s : Server). Does p s 0 job one.runs one.next one.end) (sym (begins-fresh job.release)) does, rest.plays) in
      record {
        before = before;
        jobs = job ∷ jobs;
        are = refl;
        runs = one.runs ∷ rest.runs;
        ends = rest.before;
        end = job.release + span p.runtime p.period (job.work + work_of jobs);
        plays = subst (λ (xs : List ℕ). PlaysFresh p (job ∷ jobs) (one.runs ∷ rest.runs) xs) rest.last plays;
        late = late;
      }

  -- the last job from which on the work takes too long
  find : (due : ℕ) (past jobs : List Job) → AllWork past → AllWork jobs → OnTime p due jobs → HaveRoom p (work_of jobs) past → is_done_by p.runtime p.period due (work_of jobs) past ≡ false → EndsLate p due (onto jobs past)
  find due [] jobs work later on has late = absurd cc
  find due (job ∷ past) jobs work later on has late =
      elim (cases_lt due (job.release + span p.runtime p.period (job.work + work_of jobs))) [
        | inl lt ↦ ends_late due job jobs past (work.0, later) on lt has.0
        | inr le ↦ find due past (job ∷ jobs) work.1 (work.0, later) (le, on) has.1 (rw (le-leb (job.release + span p.runtime p.period (job.work + work_of jobs)) due le) at late)
      ]

pub late-somewhere : (p : Reservation) (due : ℕ) (past : List Job) → 1 ≤ p.runtime → p.runtime ≤ p.period → AllWork past → HaveRoom p 0 past → is_done_by p.runtime p.period due 0 past ≡ false → EndsLate p due past
late-somewhere p due past some room work has late = find p (omega arith) room due past [] work tt tt has late
