-- One more line of all files.
use Rattle.std.proofs.Common.{◌≡◌, ◌⊎◌, ℕ, zero, suc, ◌+◌, ◌<◌, ◌≤◌, ◌==◌, Bool, true, false, cond, unwrap_or, List, [], ◌∷◌, ◌++◌, length, get_or, set, take, Some, None, refl, sym, ap, ◌∙◌, subst, ⊎_elim, inl, inr, arith, eq-eqb, ne_eqb, get_or-set_other, append-nil}
use Rattle.std.specs.Prelude.{slice_get, map, filter}
use Rattle.std.specs.List.{AllByRecursion}
use Rattle.std.proofs.lemmas.Fn.{FoldsTo-push}
use Rattle.std.proofs.lemmas.List.{get_or-set_same, length-set, take_all, take_more}
use Rattle.std.proofs.lemmas.List.Elements.{All-from_recursion, All-get_or, All-push, All-weaker, recursion_from_All}
use Rattle.std.proofs.lemmas.Option.{get_or_from_slice_get, same_Some, slice_get_within}
use mathlib.Core.Logic.{dite}
use native.Mathlib.Decide.{ℕ_discrete}
use Rattle.grub_book.specs.declared.server.TheConstants.{MOMENT_MAX}
use Rattle.grub_plan.specs.Limits.{ActFits, PlanFits, ScriptFits}
use Rattle.grub_plan.specs.Plans.{Line, PlanView, script_at}
use Rattle.grub_timeline.specs.declared.order.PlacedLine.{PlacedLine}
use Rattle.grub_timeline.specs.declared.player.Player.{Player}
use Rattle.grub_timeline.specs.Order.{IsNotLater, IsSorted, left, lines_of}
use Rattle.grub_timeline.specs.TimeLines.{AsksPlaced}
use Rattle.grub_timeline.specs.inside.Playing.{IsNotPast, IsPlayed, IsPlaying}
use Rattle.grub_timeline.specs.inside.Merge.{IsFirst, IsMidway, NoHead, head_at, placed}
use Rattle.grub_timeline.proofs.Left.{past}
use Rattle.grub_timeline.proofs.Sooner.{head_within, not_later-trans}

-- ---- lists of lines in their order
sorted_push : (order : List PlacedLine) (x : PlacedLine) → IsSorted order → AllByRecursion (λ q. IsNotLater q x) order → IsSorted (order ++ x ∷ [])
sorted_push [] x s a = (tt, tt)
sorted_push (p ∷ ps) x s a = (recursion_from_All (IsNotLater p) (ps ++ x ∷ []) (All-push (IsNotLater p) ps x (All-from_recursion (IsNotLater p) ps s.0) a.0), sorted_push ps x s.1 a.1)

lines_more : (r : ℕ) (order : List PlacedLine) (x : PlacedLine) → lines_of r (order ++ x ∷ []) ≡ lines_of r order ++ cond (x.runqueue == r) (x.line ∷ []) []
lines_more r [] x = go (x.runqueue == r)
  where
    go : (b : Bool) → map (λ (p : PlacedLine). p.line) (cond b (x ∷ []) []) ≡ cond b (x.line ∷ []) []
    go true = refl
    go false = refl
lines_more r (p ∷ ps) x = go (p.runqueue == r) (lines_more r ps x)
  where
    go : (b : Bool) → lines_of r (ps ++ x ∷ []) ≡ lines_of r ps ++ cond (x.runqueue == r) (x.line ∷ []) []
        → map (λ (p : PlacedLine). p.line) (cond b (p ∷ filter (λ (q : PlacedLine). q.runqueue == r) (ps ++ x ∷ [])) (filter (λ (q : PlacedLine). q.runqueue == r) (ps ++ x ∷ [])))
        ≡ map (λ (p : PlacedLine). p.line) (cond b (p ∷ filter (λ (q : PlacedLine). q.runqueue == r) ps) (filter (λ (q : PlacedLine). q.runqueue == r) ps)) ++ cond (x.runqueue == r) (x.line ∷ []) []
    go true is = ap (λ l. p.line ∷ l) is
    go false is = is

-- ---- scripts
-- a line of a script keeps the limits, and so does the one after it
pub record LineFits (n : ℕ) (line : Line) : Type 0 where
  pub moment : line.m ≤ MOMENT_MAX
  pub act : ActFits n line.act

line_fits : (n low : ℕ) (script : List Line) (k : ℕ) (line : Line) → ScriptFits n low script → slice_get script k ≡ Some line → LineFits n line
line_fits n low [] k line fits at = absurd (cc)
line_fits n low (l ∷ ls) zero line fits at = let same : l ≡ line = same_Some l line at in subst (LineFits n) same (record { moment = fits.1; act = fits.2 })
line_fits n low (l ∷ ls) (suc k) line fits at = line_fits n l.m ls k line fits.3 at

next_after : (n low : ℕ) (script : List Line) (k : ℕ) (a b : Line) → ScriptFits n low script → slice_get script k ≡ Some a → slice_get script (k + 1) ≡ Some b → a.m ≤ b.m
next_after n low [] k a b fits at then = absurd (cc)
next_after n low (l ∷ []) zero a b fits at then = absurd (cc)
next_after n low (l ∷ (m ∷ ls)) zero a b fits at then =
    let first : l.m ≡ a.m = ap (λ o. (unwrap_or o l).m) at in
    let second : m.m ≡ b.m = ap (λ o. (unwrap_or o m).m) then in
    let up = fits.3.0 in omega (arith, first, second, up)
next_after n low (l ∷ ls) (suc k) a b fits at then = let next : suc k + 1 ≡ suc (k + 1) = omega arith in next_after n l.m ls k a b fits.3 at (subst (λ i. slice_get (l ∷ ls) i ≡ Some b) next then)

-- ---- how many lines are left
left_less : (scripts : List (List Line)) (done : List ℕ) (r : ℕ) → r < length scripts → length done ≡ length scripts → get_or done r 0 < length (script_at scripts r) → left scripts (set done r (get_or done r 0 + 1)) < left scripts done
left_less [] done r low many some = absurd (omega (arith, low))
left_less (s ∷ ss) [] r low many some = absurd (omega (arith, many))
left_less (s ∷ ss) (n ∷ ns) zero low many some = omega (arith, some)
left_less (s ∷ ss) (n ∷ ns) (suc r) low many some = let less = left_less ss ns r (omega (arith, low)) (omega (arith, many)) some in omega (arith, less)

-- ---- before the first line, and after the last one
pub midway_first : (plan : PlanView) (p : Player) (done : List ℕ) → IsPlaying p → p.book.setup ≡ plan.setup → length done ≡ length plan.scripts → ((r : ℕ) → get_or done r 0 ≡ 0) → p.told.items ≡ [] → p.wheel.last ≡ None → IsMidway plan p done
midway_first plan p done playing setup many zeros empty fresh = record {
  playing = playing;
  setup = setup;
  one_each = many;
  order = [];
  sorted = tt;
  lines = λ r. sym (ap (λ n. take n (script_at plan.scripts r)) (zeros r));
  asked = sym empty;
  after = λ r line at. (tt, λ k last. let bad : None ≡ Some k = sym fresh ∙ last in absurd (cc));
}

pub played_of : (plan : PlanView) (p : Player) (done : List ℕ) → IsMidway plan p done → NoHead plan.scripts done → IsPlayed plan p
played_of plan p done mid none = record {
  setup = mid.setup;
  known = mid.playing.told;
  order = mid.order;
  sorted = record { lines = λ r. mid.lines r ∙ take_all (get_or done r 0) (script_at plan.scripts r) (past (script_at plan.scripts r) (get_or done r 0) (none r)); sorted = mid.sorted };
  asked = mid.asked;
}

-- ---- one more line
module _ (plan : PlanView) (p : Player) (done : List ℕ) (x : PlacedLine) (fits : PlanFits plan) (mid : IsMidway plan p done) (first : IsFirst plan.scripts done x) where
  pub there : x.runqueue < length plan.scripts
  there = head_within plan.scripts done x.runqueue x.line first.head

  script_fits : ScriptFits (length plan.setup.tasks) 0 (script_at plan.scripts x.runqueue)
  script_fits = All-get_or (ScriptFits (length plan.setup.tasks) 0) plan.scripts x.runqueue [] there (All-from_recursion (ScriptFits (length plan.setup.tasks) 0) plan.scripts fits.scripts)

  pub fits_here : LineFits (length plan.setup.tasks) x.line
  fits_here = line_fits (length plan.setup.tasks) 0 (script_at plan.scripts x.runqueue) (get_or done x.runqueue 0) x.line script_fits first.head

  pub less : left plan.scripts (set done x.runqueue (get_or done x.runqueue 0 + 1)) < left plan.scripts done
  less = left_less plan.scripts done x.runqueue there mid.one_each (slice_get_within (script_at plan.scripts x.runqueue) (get_or done x.runqueue 0) x.line first.head)

  now_at : get_or (set done x.runqueue (get_or done x.runqueue 0 + 1)) x.runqueue 0 ≡ get_or done x.runqueue 0 + 1
  now_at = let many = mid.one_each in let low = there in get_or-set_same done x.runqueue (get_or done x.runqueue 0 + 1) 0 (omega (arith, many, low))

  lines_now : (r : ℕ) → lines_of r (mid.order ++ x ∷ []) ≡ take (get_or (set done x.runqueue (get_or done x.runqueue 0 + 1)) r 0) (script_at plan.scripts r)
  lines_now r = dite (ℕ_discrete r x.runqueue)
      (λ same. subst (λ k. lines_of k (mid.order ++ x ∷ []) ≡ take (get_or (set done x.runqueue (get_or done x.runqueue 0 + 1)) k 0) (script_at plan.scripts k)) (sym same) own)
      (λ other. lines_more r mid.order x ∙ ap (λ b. lines_of r mid.order ++ cond b (x.line ∷ []) []) (ne_eqb x.runqueue r (λ is. other (sym is))) ∙ append-nil (lines_of r mid.order) ∙ mid.lines r
      ∙ ap (λ n. take n (script_at plan.scripts r)) (sym (get_or-set_other done x.runqueue r (get_or done x.runqueue 0 + 1) 0 other)))
    where
      own : lines_of x.runqueue (mid.order ++ x ∷ []) ≡ take (get_or (set done x.runqueue (get_or done x.runqueue 0 + 1)) x.runqueue 0) (script_at plan.scripts x.runqueue)
      own =
          let s = script_at plan.scripts x.runqueue in let k = get_or done x.runqueue 0 in
          lines_more x.runqueue mid.order x ∙ ap (λ b. lines_of x.runqueue mid.order ++ cond b (x.line ∷ []) []) (eq-eqb x.runqueue x.runqueue refl) ∙ ap (λ l. l ++ x.line ∷ []) (mid.lines x.runqueue)
          ∙ ap (λ l. take k s ++ l ∷ []) (sym (get_or_from_slice_get s k x.line x.line first.head)) ∙ sym (take_more s k x.line (slice_get_within s k x.line first.head))
          ∙ ap (λ n. take n s) (sym now_at)

  -- the next line of this file comes after it, and those of the others do
  comes_after : (r : ℕ) (line : Line) → head_at plan.scripts (set done x.runqueue (get_or done x.runqueue 0 + 1)) r ≡ Some line → IsNotLater x (placed r line)
  comes_after r line head = dite (ℕ_discrete r x.runqueue)
      (λ same. own r line same (subst (λ k. head_at plan.scripts (set done x.runqueue (get_or done x.runqueue 0 + 1)) k ≡ Some line) same head))
      (λ other. first.least r line (ap (λ n. slice_get (script_at plan.scripts r) n) (sym (get_or-set_other done x.runqueue r (get_or done x.runqueue 0 + 1) 0 other)) ∙ head))
    where
      later : (m : ℕ) → x.line.m ≤ m → (x.line.m < m) ⊎ (x.line.m ≡ m)
      later m le = dite (ℕ_discrete x.line.m m) (λ same. inr same) (λ other. inl (omega (arith, le, other)))

      own : (r : ℕ) (line : Line) → r ≡ x.runqueue → head_at plan.scripts (set done x.runqueue (get_or done x.runqueue 0 + 1)) x.runqueue ≡ Some line → IsNotLater x (placed r line)
      own r line same head =
          let s = script_at plan.scripts x.runqueue in let k = get_or done x.runqueue 0 in let n = length plan.setup.tasks in
          let up = next_after n 0 s k x.line line script_fits first.head (ap (λ i. slice_get s i) (sym now_at) ∙ head) in
          ⊎_elim (λ lt. inl lt) (λ eq. inr (eq, omega (arith, same))) (later line.m up)

  pub midway_next : (q : Player) (now : List ℕ) → now ≡ set done x.runqueue (get_or done x.runqueue 0 + 1) → IsPlaying q → q.book.setup ≡ p.book.setup → q.wheel.last ≡ Some x.line.m → AsksPlaced p.told.items x q.told.items → IsMidway plan q now
  midway_next q now is playing setup last asked = record {
    playing = playing;
    setup = setup ∙ mid.setup;
    one_each = ap length is ∙ length-set done x.runqueue (get_or done x.runqueue 0 + 1) ∙ mid.one_each;
    order = mid.order ++ x ∷ [];
    sorted = sorted_push mid.order x mid.sorted before;
    lines = λ r. lines_now r ∙ ap (λ (l : List ℕ). take (get_or l r 0) (script_at plan.scripts r)) (sym is);
    asked = FoldsTo-push AsksPlaced [] mid.order _ x _ mid.asked asked;
    after = λ r line head.
        let then = comes_after r line (ap (λ (l : List ℕ). head_at plan.scripts l r) (sym is) ∙ head) in (
          recursion_from_All (λ y. IsNotLater y (placed r line)) (mid.order ++ x ∷ []) (All-push (λ y. IsNotLater y (placed r line)) mid.order x
              (All-weaker (λ y. IsNotLater y x) (λ y. IsNotLater y (placed r line)) (λ y h. not_later-trans y x (placed r line) h then) mid.order (All-from_recursion (λ y. IsNotLater y x) mid.order before)) then),
          λ k at. not_past r line then k at,
        );
  }
    where
      before : AllByRecursion (λ y. IsNotLater y x) mid.order
      before = (mid.after x.runqueue x.line first.head).0

      not_past : (r : ℕ) (line : Line) → IsNotLater x (placed r line) → IsNotPast line.m q
      not_past r line then k at =
          let same : x.line.m ≡ k = ap (λ o. unwrap_or o k) (sym last ∙ at) in
          ⊎_elim (λ (lt : x.line.m < line.m). omega (arith, same, lt)) (λ (h : (x.line.m ≡ line.m) × (x.runqueue ≤ r)). let eq = h.0 in omega (arith, same, eq)) then
