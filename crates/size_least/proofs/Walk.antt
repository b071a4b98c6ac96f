-- The renewals that a walk keeps answer as all jobs so far do.
use Rattle.std.proofs.Common.{length, get_or, drop, ◌^◌, ◌≡◌, ℕ, ◌+◌, ◌-◌, ◌*◌, ◌/◌, ◌%◌, ◌<◌, ◌≤◌, min, Bool, true, false, ◌&&◌, ◌==◌, cond, nat_le, nat_lt, List, [], ◌∷◌, ◌++◌, map, inl, inr, refl, sym, ap, ◌∙◌, append_assoc, arith}
use Rattle.std.proofs.lemmas.Bool.{le-leb, lt-leb, le-ltb, leb-true, cases_lt, cases_Bool, or_cases, and_parts, and_right, eqb-true}
use Rattle.std.proofs.lemmas.Nat.{mul-le, div-add-mod'}
use Rattle.std.proofs.lemmas.List.Folds.{list_all-append}
use Rattle.size_least.specs.Span.{budgets_of, span}
use Rattle.std.proofs.lemmas.List.{at_drop_more}
use Rattle.size_least.specs.Jobs.{is_done_by, late_after, lates_after}
use Rattle.size_least.specs.inside.Queue.{passed, turned, last_of, latest_of, HasRoom, CanPass}
use Rattle.size_least.specs.inside.Walk.{finish_after, all_done_by, covers, has_less, joined, remembered, Rises, IsRow, AreWithin, IsKept, Answers, WillAnswer}
use Rattle.size_least.specs.declared.job.Job.{Job}
use Rattle.size_least.specs.declared.renewal.Renewal.{Renewal}
use Rattle.size_least.proofs.Budgets.{budgets-zero, budgets-grow, budgets-enough, budgets-le, budgets-whole, budgets-at_least, budgets-renewed}
use Rattle.size_least.proofs.Row.{first-last, AreTurned, AreTurned-none, AreTurned-turned, IsRow-turned, IsKept-remembered, IsKept-joined, some-joined, IsKept-passed, can-pass, room-turned, less_count, less_count-turned}

-- a renewal that ends by a release is never later than one at the release
finish-forgotten : (q p : ℕ) (r : Renewal) (release due w : ℕ) → 0 < q → r.finish ≤ release → release + span q p w ≤ due → finish_after q p r w ≤ due
unfolding span
finish-forgotten q p r release due w some ended h =
    let less = budgets-grow (w - r.left) w q some (omega arith) in
    let times : budgets_of (w - r.left) q * (p - q) ≤ budgets_of w q * (p - q) = grind arith in
    omega arith

all-kept : (q p release : ℕ) (rs : List Renewal) (due w : ℕ) → 0 < q → release + span q p w ≤ due
    → all_done_by q p due w (remembered release rs) ≡ all_done_by q p due w rs
all-kept q p release [] due w some below = refl
all-kept q p release (r ∷ rs) due w some below =
    elim (cases_lt release r.finish) [
      | inl kept ↦ rw (lt-leb r.finish release kept) refl
      | inr ended ↦ let head = le-leb (finish_after q p r w) due (finish-forgotten q p r release due w some ended below) in
          rw (le-leb r.finish release ended) (rw head (all-kept q p release rs due w some below))
    ]

all-remembered : (q p release : ℕ) (rs : List Renewal) (due w : ℕ) → 0 < q
    → (nat_le (release + span q p w) due && all_done_by q p due w (remembered release rs)) ≡ (nat_le (release + span q p w) due && all_done_by q p due w rs)
all-remembered q p release rs due w some =
    elim (cases_lt due (release + span q p w)) [
      | inl above ↦ rw (lt-leb (release + span q p w) due above) refl
      | inr below ↦ rw (le-leb (release + span q p w) due below) (all-kept q p release rs due w some below)
    ]

-- all are done only where the last is
last-done : (q p : ℕ) (r : Renewal) (rs : List Renewal) (due w : ℕ) → all_done_by q p due w (r ∷ rs) ≡ true → finish_after q p (last_of r rs) w ≤ due
last-done q p r [] due w h = leb-true _ _ (and_parts (nat_le (finish_after q p r w) due) true h).0
last-done q p r (s ∷ rs) due w h = last-done q p s rs due w (and_parts (nat_le (finish_after q p r w) due) (all_done_by q p due w (s ∷ rs)) h).1

last-within : (q : ℕ) (r : Renewal) (rs : List Renewal) → AreWithin q (r ∷ rs) → (last_of r rs).left < q
last-within q r [] h = h.0
last-within q r (s ∷ rs) h = last-within q s rs h.1

-- a renewal that covers a release is never earlier than one at the release
finish-full : (q p : ℕ) (r : Renewal) (release due w : ℕ) → r.left ≡ 0 → release ≤ r.finish → finish_after q p r w ≤ due → release + span q p w ≤ due
unfolding span
finish-full q p r release due w empty first h =
    let same : w - r.left ≡ w = omega arith in
    let h' : r.finish + w + budgets_of w q * (p - q) ≤ due = rw same at h in
    omega arith

finish-far : (q p : ℕ) (r : Renewal) (release due w : ℕ) → 0 < q → due < 2 ^ 63 → r.left < q → min (release + (p - q)) 18446744073709551615 ≤ r.finish → finish_after q p r w ≤ due → release + span q p w ≤ due
unfolding span
finish-far q p r release due w some below within first h =
    let all = budgets-enough (w - r.left) q some in
    let more : budgets_of w q ≤ budgets_of (w - r.left) q + 1 = budgets-le w q (budgets_of (w - r.left) q + 1) some (omega arith) in
    let times : budgets_of w q * (p - q) ≤ (budgets_of (w - r.left) q + 1) * (p - q) = mul-le (budgets_of w q) (p - q) (budgets_of (w - r.left) q + 1) (p - q) more (omega arith) in
    omega arith

covered-done : (q p release : ℕ) (rs : List Renewal) (due w : ℕ) → 0 < q → due < 2 ^ 63 → AreWithin q rs → covers (p - q) release rs ≡ true → all_done_by q p due w rs ≡ true → release + span q p w ≤ due
covered-done q p release [] due w some below within is h = absurd cc
covered-done q p release (r ∷ rs) due w some below within is h =
    elim (or_cases ((r.left == 0) && nat_le release r.finish) (nat_le (min (release + (p - q)) 18446744073709551615) (last_of r rs).finish) is) [
      | inl full ↦ let parts = and_parts (r.left == 0) (nat_le release r.finish) full in
          finish-full q p r release due w (eqb-true r.left 0 parts.0) (leb-true release r.finish parts.1) (leb-true _ _ (and_parts (nat_le (finish_after q p r w) due) (all_done_by q p due w rs) h).0)
      | inr far ↦ finish-far q p (last_of r rs) release due w some below (last-within q r rs within) (leb-true _ _ far) (last-done q p r rs due w h)
    ]

all-covered : (q p release : ℕ) (rs : List Renewal) (due w : ℕ) → 0 < q → due < 2 ^ 63 → AreWithin q rs → covers (p - q) release rs ≡ true
    → all_done_by q p due w rs ≡ (nat_le (release + span q p w) due && all_done_by q p due w rs)
all-covered q p release rs due w some below within is =
    elim (cases_Bool (all_done_by q p due w rs)) [
      | inl done ↦ rw done (rw (le-leb (release + span q p w) due (covered-done q p release rs due w some below within is done)) refl)
      | inr late ↦ rw late (sym (and_right (nat_le (release + span q p w) due) false refl))
    ]

fresh-span : (q p release w : ℕ) → release + w + budgets_of (w - 0) q * (p - q) ≡ release + span q p w
unfolding span
fresh-span q p release w = let e : w - 0 ≡ w = omega arith in rw e (omega arith)

-- a renewal at a release joins those before it
all-joined : (q p release : ℕ) (rs : List Renewal) (due w : ℕ) → 0 < q → due < 2 ^ 63 → AreWithin q rs
    → all_done_by q p due w (joined (p - q) release rs) ≡ (nat_le (release + span q p w) due && all_done_by q p due w rs)
all-joined q p release rs due w some below within =
    elim (cases_Bool (covers (p - q) release rs)) [
      | inl covered ↦ rw covered (all-covered q p release rs due w some below within covered)
      | inr apart ↦ rw apart (ap (λ n. nat_le n due && all_done_by q p due w rs) (fresh-span q p release w))
    ]

-- those that stand at a release answer once the work of its job is done
pub WillAnswer-joined : (q p : ℕ) (job : Job) (rs : List Renewal) (past : List Job) → 0 < q → IsKept (p - q) q rs → Answers q p rs past
    → WillAnswer q p job.work (joined (p - q) job.release (remembered job.release rs)) (job ∷ past)
WillAnswer-joined q p job rs past some kept answers = λ due w below.
    all-joined q p job.release (remembered job.release rs) due (job.work + w) some below (IsKept-remembered (p - q) q job.release rs kept).within
    ∙ all-remembered q p job.release rs due (job.work + w) some
    ∙ ap (λ b. nat_le (job.release + span q p (job.work + w)) due && b) (answers due (job.work + w) below)

-- a renewal whose budget is used up goes on as its next one
finish-turned : (q p : ℕ) (r : Renewal) (used w : ℕ) → 0 < q → r.left < used
    → finish_after q p (record { finish = r.finish + (p - q); left = r.left + q }) (used + w) ≡ finish_after q p r (used + w)
finish-turned q p r used w some less =
    let renewed : budgets_of (used + w - r.left) q ≡ budgets_of (used + w - r.left - q) q + 1 = budgets-renewed (used + w - r.left) q some (omega arith) in
    let same : used + w - (r.left + q) ≡ used + w - r.left - q = omega arith in
    let times : budgets_of (used + w - r.left) q * (p - q) ≡ budgets_of (used + w - r.left - q) q * (p - q) + (p - q) = rw renewed (omega arith) in
    rw same (omega arith)

and_swap : (x y : Bool) → (y && (x && true)) ≡ (x && y)
and_swap true true = refl
and_swap true false = refl
and_swap false true = refl
and_swap false false = refl

first_less : (a b : ℕ) → nat_lt a b ≡ true → a < b
first_less a b h = elim (cases_lt a b) [ inl lt ↦ lt | inr le ↦ (let is : nat_lt a b ≡ false = le-ltb a b le in absurd cc) ]

pub all-turned : (q p used : ℕ) (rs : List Renewal) (due w : ℕ) → 0 < q → has_less used rs ≡ true
    → all_done_by q p due (used + w) (turned (p - q) q rs) ≡ all_done_by q p due (used + w) rs
all-turned q p used [] due w some less = refl
all-turned q p used (r ∷ rs) due w some less =
    let few : r.left < used = first_less r.left used less in
    list_all-append (λ r. nat_le (finish_after q p r (used + w)) due) rs (record { finish = r.finish + (p - q); left = r.left + q } ∷ [])
    ∙ and_swap (nat_le (finish_after q p (record { finish = r.finish + (p - q); left = r.left + q }) (used + w)) due) (all_done_by q p due (used + w) rs)
    ∙ ap (λ n. nat_le n due && all_done_by q p due (used + w) rs) (finish-turned q p r used w some few)

-- a renewal that goes on by whole budgets and a part of one
finish-passed : (q p whole used time : ℕ) (r : Renewal) (w : ℕ) → 0 < q → used ≤ r.left → r.left < used + q → time ≡ whole * (p - q) + (whole * q + used)
    → finish_after q p (passed time used r) w ≡ finish_after q p r (whole * q + used + w)
finish-passed q p whole used time r w some has less is =
    let budgets : budgets_of (whole * q + used + w - r.left) q ≡ whole + budgets_of (w - (r.left - used)) q = budgets-whole whole q used r.left w some has less in
    let times : budgets_of (whole * q + used + w - r.left) q * (p - q) ≡ whole * (p - q) + budgets_of (w - (r.left - used)) q * (p - q) = rw budgets (omega arith) in
    omega arith

both_and : (a b c d : Bool) → a ≡ b → c ≡ d → (a && c) ≡ (b && d)
both_and a b c d e f = rw (e, f) refl

pub all-passed : (q p whole used time latest : ℕ) (rs : List Renewal) (due w : ℕ) → 0 < q → AreTurned (p - q) q latest used rs → CanPass time used rs → time ≡ whole * (p - q) + (whole * q + used)
    → all_done_by q p due w (map (passed time used) rs) ≡ all_done_by q p due (whole * q + used + w) rs
all-passed q p whole used time latest [] due w some h can is = refl
all-passed q p whole used time latest (r ∷ rs) due w some h can is =
    let head = finish-passed q p whole used time r w some can.1 h.2 is in
    let tail = all-passed q p whole used time latest rs due w some h.3 can.2 is in
    both_and _ _ _ _ (ap (λ n. nat_le n due) head) tail

-- where the work of the last may take beyond all moments, no moment is late enough
pub late-beyond : (q p whole used : ℕ) (rs : List Renewal) (due w : ℕ) → 0 < q → p < 4294967296 → due < 2 ^ 63 → 0 < length rs → AreWithin q rs
    → 18446744073709551615 ≤ latest_of rs + (p - q) + (whole * (p - q) + (whole * q + used))
    → all_done_by q p due (whole * q + used + w) rs ≡ false
late-beyond q p whole used [] due w some small below one within far = absurd (omega arith)
late-beyond q p whole used (r ∷ rs) due w some small below one within far =
    elim (cases_Bool (all_done_by q p due (whole * q + used + w) (r ∷ rs))) [
      | inl done ↦ let is : finish_after q p (last_of r rs) (whole * q + used + w) ≤ due = last-done q p r rs due (whole * q + used + w) done in
          let same : whole * q + used + w - (last_of r rs).left ≡ whole * q + (used + w) - (last_of r rs).left = omega arith in
          let least : whole ≤ budgets_of (whole * q + used + w - (last_of r rs).left) q = rw same (budgets-at_least whole q (used + w) (last_of r rs).left some (last-within q r rs within)) in
          let times : whole * (p - q) ≤ budgets_of (whole * q + used + w - (last_of r rs).left) q * (p - q) = mul-le whole (p - q) _ (p - q) least (omega arith) in
          absurd (omega arith)
      | inr late ↦ late
    ]

pub beyond-late : (q p due w : ℕ) → due < 2 ^ 63 → all_done_by q p due w (record { finish = 18446744073709551615; left = 0 } ∷ []) ≡ false
beyond-late q p due w below = rw (lt-leb (18446744073709551615 + w + budgets_of (w - 0) q * (p - q)) due (omega arith)) refl

pub Answers-none : (q p : ℕ) → Answers q p [] []
Answers-none q p = λ due w below. refl

pub IsKept-none : (gap q : ℕ) → IsKept gap q []
IsKept-none gap q = record { row = tt; within = tt }

-- the test at a due moment
and_true : (x : Bool) → x ≡ (x && true)
and_true true = refl
and_true false = refl

finish-now : (q p : ℕ) (r : Renewal) → 0 < q → finish_after q p r 0 ≡ r.finish
finish-now q p r some =
    let no_work : 0 - r.left ≡ 0 = omega arith in
    let none : budgets_of (0 - r.left) q ≡ 0 = rw no_work (budgets-zero q some) in
    rw none (omega arith)

latest_on : (q p due : ℕ) (r : Renewal) (rs : List Renewal) → 0 < q → Rises r.finish r.left rs → nat_le (last_of r rs).finish due ≡ all_done_by q p due 0 (r ∷ rs)
latest_on q p due r [] some rises = and_true (nat_le r.finish due) ∙ ap (λ n. nat_le n due && true) (sym (finish-now q p r some))
latest_on q p due r (s ∷ rs) some rises =
    let tail = latest_on q p due s rs some rises.2 in
    let last = first-last s rs rises.2 in
    let le : r.finish ≤ s.finish = rises.0 in
    let rest = all_done_by q p due 0 (s ∷ rs) in
    let now : (nat_le (finish_after q p r 0) due && rest) ≡ (nat_le r.finish due && rest) = ap (λ n. nat_le n due && rest) (finish-now q p r some) in
    elim (cases_lt due r.finish) [
      | inl late ↦ lt-leb (last_of s rs).finish due (omega arith) ∙ sym (now ∙ ap (λ b. b && rest) (lt-leb r.finish due late))
      | inr done ↦ tail ∙ sym (now ∙ ap (λ b. b && rest) (le-leb r.finish due done))
    ]

pub latest-now : (gap q p due : ℕ) (rs : List Renewal) → 0 < q → IsRow gap q rs → nat_le (latest_of rs) due ≡ all_done_by q p due 0 rs
latest-now gap q p due [] some row = le-leb 0 due (omega arith)
latest-now gap q p due (r ∷ rs) some row = latest_on q p due r rs some row.0

-- renewals of which some were turned, as a loop turns them before some of each budget is used
pub record AreTurning (q p used : ℕ) (start rs : List Renewal) : Type 0 where
  pub row : IsRow (p - q) q rs
  pub turned : AreTurned (p - q) q (latest_of start) used rs
  pub same : (due w : ℕ) → all_done_by q p due (used + w) rs ≡ all_done_by q p due (used + w) start

pub AreTurning-none : (q p used : ℕ) (rs : List Renewal) → IsKept (p - q) q rs → AreTurning q p used rs rs
AreTurning-none q p used rs kept = record { row = kept.row; turned = AreTurned-none (p - q) q used rs kept; same = λ due w. refl }

pub AreTurning-next : (q p used gap : ℕ) (start rs rs' : List Renewal) → 0 < q → used < q → gap ≡ p - q → has_less used rs ≡ true → rs' ≡ turned gap q rs → AreTurning q p used start rs → AreTurning q p used start rs'
AreTurning-next q p used gap start rs rs' some below is less turns h =
    let turns' : rs' ≡ turned (p - q) q rs = turns ∙ ap (λ g. turned g q rs) is in
    let next : AreTurning q p used start (turned (p - q) q rs) = record {
      row = IsRow-turned (p - q) q rs h.row;
      turned = AreTurned-turned (p - q) q (latest_of start) used rs below less h.turned;
      same = λ due w. all-turned q p used rs due w some less ∙ h.same due w;
    } in
    rw turns' next

-- they answer with their work done
pub turned-done : (q p whole used work time : ℕ) (start rs : List Renewal) (past : List Job) → 0 < q → AreTurning q p used start rs → CanPass time used rs
    → work ≡ whole * q + used → time ≡ whole * (p - q) + work → WillAnswer q p work start past → Answers q p (map (passed time used) rs) past
turned-done q p whole used work time start rs past some h can parts is will = λ due w below.
    let time_is : time ≡ whole * (p - q) + (whole * q + used) = omega arith in
    let ahead : whole * q + used + w ≡ used + (whole * q + w) = omega arith in
    let all : used + (whole * q + w) ≡ work + w = omega arith in
    all-passed q p whole used time (latest_of start) rs due w some h.turned can time_is
    ∙ ap (λ n. all_done_by q p due n rs) ahead
    ∙ h.same due (whole * q + w)
    ∙ ap (λ n. all_done_by q p due n start) all
    ∙ will due w below

-- one that is beyond all moments answers for those that may be
pub beyond-done : (q p whole used work : ℕ) (rs : List Renewal) (past : List Job) → 0 < q → p < 4294967296 → 0 < length rs → IsKept (p - q) q rs
    → work ≡ whole * q + used → 18446744073709551615 ≤ latest_of rs + (p - q) + (whole * (p - q) + work)
    → WillAnswer q p work rs past → Answers q p (record { finish = 18446744073709551615; left = 0 } ∷ []) past
beyond-done q p whole used work rs past some small one kept parts far will = λ due w below.
    let all : whole * q + used + w ≡ work + w = omega arith in
    beyond-late q p due w below
    ∙ sym (late-beyond q p whole used rs due w some small below one kept.within (omega arith))
    ∙ ap (λ n. all_done_by q p due n rs) all
    ∙ will due w below

pub IsKept-beyond : (gap q : ℕ) → 0 < q → IsKept gap q (record { finish = 18446744073709551615; left = 0 } ∷ [])
IsKept-beyond gap q some = record { row = (tt, tt); within = (some, tt) }

-- the count of a walk after one more job
pub count-next : (q p count i whole : ℕ) (jobs past : List Job) (rs' : List Renewal) (job : Job) (done : Bool) (count' : ℕ) → 0 < q → i < length jobs → job ≡ get_or jobs i job → job.due < 2 ^ 63
    → IsKept (p - q) q rs' → Answers q p rs' (job ∷ past) → count + late_after q p past (drop i jobs) ≡ whole
    → done ≡ nat_le (latest_of rs') job.due → count' ≡ cond done count (count + 1)
    → count' + late_after q p (job ∷ past) (drop (i + 1) jobs) ≡ whole
count-next q p count i whole jobs past rs' job done count' some within item bounded kept answers counted tests count_is =
    let test : done ≡ is_done_by q p job.due 0 (job ∷ past) = tests ∙ latest-now (p - q) q p job.due rs' some kept.row ∙ answers job.due 0 bounded in
    let split : late_after q p past (drop i jobs) ≡ late_after q p past (job ∷ drop (i + 1) jobs) = at_drop_more (late_after q p past) jobs i job within ∙ ap (λ j. late_after q p past (j ∷ drop (i + 1) jobs)) (sym item) in
    let parts : late_after q p past (job ∷ drop (i + 1) jobs) ≡ cond done 0 1 + late_after q p (job ∷ past) (drop (i + 1) jobs) = rw test refl in
    count_both done count count' _ whole count_is (ap (λ n. count + n) (sym parts) ∙ ap (λ n. count + n) (sym split) ∙ counted)
  where
    count_both : (done : Bool) (count count' rest whole : ℕ) → count' ≡ cond done count (count + 1) → count + (cond done 0 1 + rest) ≡ whole → count' + rest ≡ whole
    count_both true count count' rest whole is sum = omega arith
    count_both false count count' rest whole is sum = omega arith

-- the list of a walk after one more job
pub lates-next : (q p i : ℕ) (whole lates lates' : List ℕ) (jobs past : List Job) (rs' : List Renewal) (job : Job) (late : ℕ) → 0 < q → i < length jobs → job ≡ get_or jobs i job → job.due < 2 ^ 63
    → IsKept (p - q) q rs' → Answers q p rs' (job ∷ past) → lates ++ lates_after q p past (drop i jobs) ≡ whole
    → late ≡ cond (nat_le (latest_of rs') job.due) 0 1 → lates' ≡ lates ++ late ∷ []
    → lates' ++ lates_after q p (job ∷ past) (drop (i + 1) jobs) ≡ whole
lates-next q p i whole lates lates' jobs past rs' job late some within item bounded kept answers told tests is =
    let test : nat_le (latest_of rs') job.due ≡ is_done_by q p job.due 0 (job ∷ past) = latest-now (p - q) q p job.due rs' some kept.row ∙ answers job.due 0 bounded in
    let split : lates_after q p past (drop i jobs) ≡ lates_after q p past (job ∷ drop (i + 1) jobs) = at_drop_more (lates_after q p past) jobs i job within ∙ ap (λ j. lates_after q p past (j ∷ drop (i + 1) jobs)) (sym item) in
    let here : late ≡ cond (is_done_by q p job.due 0 (job ∷ past)) 0 1 = tests ∙ ap (λ (b : Bool). cond b 0 1) test in
    let rest = lates_after q p (job ∷ past) (drop (i + 1) jobs) in
    ap (λ (xs : List ℕ). xs ++ rest) is
    ∙ append_assoc lates (late ∷ []) rest
    ∙ ap (λ (n : ℕ). lates ++ n ∷ rest) here
    ∙ ap (λ (xs : List ℕ). lates ++ xs) (sym split)
    ∙ told

-- What a loop that turns them owes.
far : (a b : ℕ) → nat_le a b ≡ false → b < a
far a b e = elim (cases_lt b a) [ inl lt ↦ lt | inr le ↦ (let is : nat_le a b ≡ true = le-leb a b le in absurd cc) ]

pub turning-room : (q p used gap budget time : ℕ) (start rs : List Renewal) → AreTurning q p used start rs → budget ≡ q → gap ≡ p - q → used < budget → q < 4294967296
    → nat_le 18446744073709551615 (latest_of start + gap + time) ≡ false → has_less used rs ≡ true → HasRoom gap budget rs
turning-room q p used gap budget time start rs h is is' below small fits less =
    let far_enough = far _ _ fits in
    rw (is, is') (room-turned (p - q) q (latest_of start) used rs (omega arith) small (omega arith) less h.turned)

pub turning-next : (q p used gap budget : ℕ) (start rs rs' : List Renewal) → AreTurning q p used start rs → 0 < q → budget ≡ q → gap ≡ p - q → used < budget
    → has_less used rs ≡ true → rs' ≡ turned gap budget rs → AreTurning q p used start rs'
turning-next q p used gap budget start rs rs' h some is is' below less turns =
    AreTurning-next q p used gap start rs rs' some (omega arith) is' less (turns ∙ ap (λ b. turned gap b rs) is) h

pub turning-shorter : (q used gap budget : ℕ) (rs rs' : List Renewal) → budget ≡ q → used < budget → has_less used rs ≡ true → rs' ≡ turned gap budget rs → less_count used rs' < less_count used rs
turning-shorter q used gap budget rs rs' is below less turns = rw turns (less_count-turned gap budget used rs below less)

pub turning-can-pass : (q p used gap time : ℕ) (start rs : List Renewal) → AreTurning q p used start rs → gap ≡ p - q
    → nat_le 18446744073709551615 (latest_of start + gap + time) ≡ false → has_less used rs ≡ false → CanPass time used rs
turning-can-pass q p used gap time start rs h is fits enough =
    let far_enough = far _ _ fits in
    can-pass (p - q) q (latest_of start) used time rs h.row enough h.turned (omega arith)

pub turning-kept : (q p used gap time : ℕ) (start rs rs' : List Renewal) → AreTurning q p used start rs → gap ≡ p - q
    → nat_le 18446744073709551615 (latest_of start + gap + time) ≡ false → has_less used rs ≡ false → rs' ≡ map (passed time used) rs → IsKept (p - q) q rs'
turning-kept q p used gap time start rs rs' h is fits enough passes =
    rw passes (IsKept-passed (p - q) q (latest_of start) used time rs h.row h.turned (turning-can-pass q p used gap time start rs h is fits enough))

pub turning-answers : (q p used gap time budget work : ℕ) (start rs rs' : List Renewal) (past : List Job) → AreTurning q p used start rs → 0 < q → budget ≡ q → gap ≡ p - q
    → nat_le 18446744073709551615 (latest_of start + gap + time) ≡ false → has_less used rs ≡ false → rs' ≡ map (passed time used) rs
    → used ≡ work % budget → time ≡ min (work / budget * gap + work) 18446744073709551615 → WillAnswer q p work start past → Answers q p rs' past
turning-answers q p used gap time budget work start rs rs' past h some is is' fits enough passes part is_time will =
    let far_enough = far _ _ fits in
    let parts = div-add-mod' work budget in
    let times : work / budget * budget ≡ work / budget * q = rw is refl in
    let gaps : work / budget * gap ≡ work / budget * (p - q) = rw is' refl in
    rw passes (turned-done q p (work / budget) used work time start rs past some h (turning-can-pass q p used gap time start rs h is' fits enough) (omega arith) (omega arith) will)

pub beyond-answers : (q p gap time budget work : ℕ) (rs rs' : List Renewal) (past : List Job) → 0 < q → p < 4294967296 → 0 < length rs → IsKept (p - q) q rs → budget ≡ q → gap ≡ p - q
    → nat_le 18446744073709551615 (latest_of rs + gap + time) ≡ true → rs' ≡ record { finish = 18446744073709551615; left = 0 } ∷ []
    → time ≡ min (work / budget * gap + work) 18446744073709551615 → WillAnswer q p work rs past → Answers q p rs' past
beyond-answers q p gap time budget work rs rs' past some small one kept is is' beyond replaces is_time will =
    let late = leb-true _ _ beyond in
    let parts = div-add-mod' work budget in
    let times : work / budget * budget ≡ work / budget * q = rw is refl in
    let gaps : work / budget * gap ≡ work / budget * (p - q) = rw is' refl in
    rw replaces (beyond-done q p (work / budget) (work % budget) work rs past some small one kept (omega arith) (omega arith) will)

-- What a step owes, where `old` are those that it begins with, `mid` those that are not forgotten, and `new` those that stand at the release.
pub step-some : (gap release : ℕ) (old mid new : List Renewal) → mid ≡ remembered release old → new ≡ joined gap release mid → 0 < length new
step-some gap release old mid new forgets joins = rw joins (some-joined gap release mid)

pub step-kept : (q p gap release : ℕ) (old mid new : List Renewal) → 0 < q → gap ≡ p - q → IsKept (p - q) q old → mid ≡ remembered release old → new ≡ joined gap release mid → IsKept (p - q) q new
step-kept q p gap release old mid new some is kept forgets joins =
    let new_is : new ≡ joined (p - q) release (remembered release old) = joins ∙ ap (λ g. joined g release mid) is ∙ ap (λ rs. joined (p - q) release rs) forgets in
    rw new_is (IsKept-joined (p - q) q release old some kept)

pub step-answers : (q p gap : ℕ) (job : Job) (old mid new : List Renewal) (past : List Job) → 0 < q → gap ≡ p - q → IsKept (p - q) q old → mid ≡ remembered job.release old → new ≡ joined gap job.release mid
    → Answers q p old past → WillAnswer q p job.work new (job ∷ past)
step-answers q p gap job old mid new past some is kept forgets joins answers =
    let new_is : new ≡ joined (p - q) job.release (remembered job.release old) = joins ∙ ap (λ g. joined g job.release mid) is ∙ ap (λ rs. joined (p - q) job.release rs) forgets in
    rw new_is (WillAnswer-joined q p job old past some kept answers)
