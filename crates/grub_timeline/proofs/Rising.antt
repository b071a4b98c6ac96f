-- The moments of the entries do not go back.
use Rattle.std.proofs.Common.{◌≡◌, ◌⊎◌, ℕ, ◌-◌, ◌<◌, ◌≤◌, Bool, true, false, cond, nat_eq, nat_lt, List, [], ◌∷◌, ◌++◌, length, Option, Some, unwrap_or, refl, sym, ap, ◌∙◌, subst, ⊎_elim, arith, None}
use Rattle.std.specs.List.{All, FoldsTo}
use Rattle.std.specs.List.Sorted.{IsNonDecreasingBy}
use Rattle.std.proofs.lemmas.Bool.{ltb-true, ltb-false}
use Rattle.std.proofs.lemmas.List.Elements.{All-nil, All-push, All-weaker}
use Rattle.std.proofs.lemmas.List.Sorted.{IsNonDecreasingBy-push, IsNonDecreasingBy-short}
use mathlib.Core.List.{IsPrefix}
use Rattle.grub_book.specs.declared.op.Op.{Op}
use Rattle.grub_book.specs.declared.op.Op.TheVariants as ops
use Rattle.grub_book.specs.declared.reply.Reply.TheVariants as replies
use Rattle.grub_plan.specs.declared.line.Act.{Act}
use Rattle.grub_plan.specs.declared.line.Act.TheVariants as acts
use Rattle.grub_plan.specs.Plans.{Line}
use Rattle.grub_plan.specs.declared.entry.Ask.{Ask}
use Rattle.grub_plan.specs.declared.entry.Ask.TheVariants.{Call, Read}
use Rattle.grub_plan.specs.declared.entry.Answer.{Answer}
use Rattle.grub_plan.specs.declared.entry.Answer.TheVariants.{Replied}
use Rattle.grub_plan.specs.declared.entry.Entry.{Entry}
use Rattle.grub_plan.specs.Asked.{AsksLine, AsksTimer, Follows, JoinsAfter, ask_of, entry}
use Rattle.grub_plan.specs.Keeping.{WaitsRightly}
use Rattle.grub_plan.specs.inside.Keeping.{IsLineOp}
use Rattle.grub_wheel.specs.declared.timer.Timer.{Timer}
use Rattle.grub_wheel.specs.TimerBag.{IsNotAfter}
use Rattle.grub_plan.specs.Timers.{Alarm, NoneDue, Touch, armed, touch, touch_of_call}
use Rattle.grub_plan.specs.inside.Touches.{alarm_after, disarms, leaves}
use Rattle.grub_plan.proofs.Kept.{armed-more}
use Rattle.grub_plan.proofs.Starts.{follows_start, joins_start}

-- the moments rise up to m, and no armed timer is before it
pub record Rises (m : ℕ) (es : List Entry) : Type 0 where
  pub up : IsNonDecreasingBy (λ (e : Entry). e.m) es
  pub most : All (λ (e : Entry). e.m ≤ m) es
  pub ahead : (t : ℕ) (a : Alarm) → armed es t ≡ Some a → m ≤ a.0

pub rises_nothing : Rises 0 []
rises_nothing = record {
  up = IsNonDecreasingBy-short (λ (e : Entry). e.m) [] (omega arith);
  most = All-nil (λ (e : Entry). e.m ≤ 0);
  ahead = λ t a at. omega arith;
}

-- one more entry, at a moment that is no earlier
rises_more : (m n : ℕ) (es : List Entry) (e : Entry) → Rises m es → m ≤ n → e.m ≡ n → ((t : ℕ) (a : Alarm) → armed (es ++ e ∷ []) t ≡ Some a → n ≤ a.0) → Rises n (es ++ e ∷ [])
rises_more m n es e was low at ahead = record {
  up = IsNonDecreasingBy-push (λ (k : Entry). k.m) es e was.up (λ d some. let last = was.most (length es - 1) d (omega (arith, some)) in omega (arith, last, low, at));
  most = All-push (λ (k : Entry). k.m ≤ n) es e (All-weaker (λ (k : Entry). k.m ≤ m) (λ (k : Entry). k.m ≤ n) (λ k h. omega (arith, h, low)) es was.most) (omega (arith, at));
  ahead = ahead;
}

-- ---- timers
not_before : (x y : Timer) → IsNotAfter x y → x.z ≤ y.z
not_before x y a = ⊎_elim (λ (h : x.z < y.z). omega arith) (λ (h : (x.z ≡ y.z) × ((x.t < y.t) ⊎ ((x.t ≡ y.t) × (x.ticket ≤ y.ticket)))). let same = h.0 in omega (arith, same)) a

timer_rises : (m n : ℕ) (es after : List Entry) (x : Timer) → Rises m es → AsksTimer n es x after → Rises x.z after
timer_rises m n es after x was f =
    subst (Rises x.z) (sym f.asks.list) (rises_more m x.z es e was (was.ahead x.t (x.z, x.ticket) f.next.armed) refl
    (λ t a at. go t a (nat_eq t x.t) (sym (armed-more t es e) ∙ at)))
  where
    e : Entry
    e = entry x.z (Call x.t (ops.Timer x.ticket x.z)) f.asks.answer

    later : (t : ℕ) (a : Alarm) → armed es t ≡ Some a → (b : Bool) → nat_lt n a.0 ≡ b → x.z ≤ a.0
    later t a at true is = let due = f.next.due in let past = ltb-true n a.0 is in omega (arith, due, past)
    later t a at false is = let y : Timer = record { z = a.0; t = t; ticket = a.1 } in not_before x y (f.next.least y at (ltb-false n a.0 is))

    go : (t : ℕ) (a : Alarm) (b : Bool) → alarm_after (cond b disarms leaves) (armed es t) ≡ Some a → x.z ≤ a.0
    go t a true at = absurd (cc)
    go t a false at = later t a at (nat_lt n a.0) refl

due_rises : (m n : ℕ) (xs : List Timer) (es after : List Entry) → m ≤ n → Rises m es → FoldsTo (AsksTimer n) es xs after → (k : ℕ) × (k ≤ n) × Rises k after
due_rises m n [] es after low was f = (m, low, subst (Rises m) f was)
due_rises m n (x ∷ xs) es after low was f = due_rises x.z n xs f.0 after f.1.next.due (timer_rises m n es f.0 x was f.1) f.2

raised : (k n : ℕ) (es : List Entry) → k ≤ n → Rises k es → NoneDue (armed es) n → Rises n es
raised k n es low was none = record {
  up = was.up;
  most = All-weaker (λ (e : Entry). e.m ≤ k) (λ (e : Entry). e.m ≤ n) (λ e h. omega (arith, h, low)) es was.most;
  ahead = λ t a at. let past = none (record { z = a.0; t = t; ticket = a.1 }) at in omega (arith, past);
}

-- ---- asks of a line
abbrev IsLineAsk : ℕ → Ask → Type 0
IsLineAsk m (Call t op) = IsLineOp m op
IsLineAsk m Read = Unit {0}

abbrev pub AnswersRightly : Ask → Answer → Type 0
AnswersRightly (Call t op) answer = WaitsRightly op answer
AnswersRightly Read answer = Unit {0}

-- what an ask of a line at m arms is later than m
abbrev IsLate : ℕ → Touch → Type 0
IsLate m None = Unit {0}
IsLate m (Some None) = Unit {0}
IsLate m (Some (Some a)) = m < a.0

late_block : (m r : ℕ) (answer : Answer) → WaitsRightly (ops.Block r m) answer → IsLate m (touch_of_call (ops.Block r m) answer)
late_block m r (Replied (replies.Waiting ticket z)) waits = waits ticket z refl
late_block m r (Replied (replies.Joined q d)) waits = tt
late_block m r answer waits = tt

late_call : (m : ℕ) (op : Op) (answer : Answer) → IsLineOp m op → WaitsRightly op answer → IsLate m (touch_of_call op answer)
late_call m (ops.Block r k) answer at waits = subst (λ n. IsLate n (touch_of_call (ops.Block r k) answer)) at (late_block k r answer waits)
late_call m (ops.Timer ticket k) answer at waits = absurd at
late_call m op (Replied (replies.Joined q d)) at waits = tt
late_call m op answer at waits = tt

late_touch : (m t : ℕ) (ask : Ask) (answer : Answer) → IsLineAsk m ask → AnswersRightly ask answer → IsLate m (touch t ask answer)
late_touch m t (Call u op) answer at right = go (nat_eq t u)
  where
    go : (b : Bool) → IsLate m (cond b (touch_of_call op answer) leaves)
    go true = late_call m op answer at right
    go false = tt
late_touch m t Read answer at right = tt

after_touch : (m : ℕ) (t : Touch) (old : Option Alarm) (a : Alarm) → IsLate m t → ((b : Alarm) → old ≡ Some b → m ≤ b.0) → alarm_after t old ≡ Some a → m ≤ a.0
after_touch m None old a late was at = was a at
after_touch m (Some None) old a late was at = absurd (cc)
after_touch m (Some (Some b)) old a late was at = let same : b.0 ≡ a.0 = ap (λ o. (unwrap_or o b).0) at in omega (arith, late, same)

ask_rises : (m : ℕ) (ask : Ask) (answer : Answer) (es after : List Entry) → IsLineAsk m ask → AnswersRightly ask answer → Rises m es → after ≡ es ++ entry m ask answer ∷ [] → Rises m after
ask_rises m ask answer es after at right was list =
    let e : Entry = entry m ask answer in
    subst (Rises m) (sym list) (rises_more m m es e was (omega arith) refl
    (λ t a there. after_touch m (touch t ask answer) (armed es t) a (late_touch m t ask answer at right) (λ b is. was.ahead t b is) (sym (armed-more t es e) ∙ there)))

line_ask : (r m : ℕ) (act : Act ℕ ℕ) → IsLineAsk m (ask_of r m act)
line_ask r m (acts.Join t) = refl
line_ask r m (acts.Wake t) = refl
line_ask r m (acts.Block t) = refl
line_ask r m (acts.Leave t) = tt
line_ask r m (acts.Exit t) = tt
line_ask r m (acts.Run t dt) = tt
line_ask r m (acts.Retune t q p) = tt
line_ask r m acts.Read = tt

-- ---- a line; P holds of what a book answers, and of each beginning of it
module _
    (P : List Entry → Type 0)
    (prefix : (later earlier : List Entry) → IsPrefix earlier later → P later → P earlier)
    (right : (m : ℕ) (ask : Ask) (before : List Entry) (answer : Answer) → P (before ++ entry m ask answer ∷ []) → AnswersRightly ask answer) where
  next_rises : (m : ℕ) (ask : Ask) (answer : Answer) (es after : List Entry) → IsLineAsk m ask → P after → Rises m es → after ≡ es ++ entry m ask answer ∷ [] → Rises m after
  next_rises m ask answer es after at p was list = ask_rises m ask answer es after at (right m ask es answer (subst P list p)) was list

  joins_rises : (r m t : ℕ) (answer : Answer) (es after : List Entry) → P after → Rises m es → JoinsAfter r m t answer es after → Rises m after
  joins_rises r m t (Replied (replies.Left s)) es after p was f = next_rises m (Call t (ops.Join r m)) f.answer es after refl p was f.list
  joins_rises r m t answer es after p was f = subst (Rises m) (sym f) was

  follows_rises : (r m : ℕ) (act : Act ℕ ℕ) (answer : Answer) (es after : List Entry) → P after → Rises m es → Follows r m act answer es after → Rises m after
  follows_rises r m (acts.Wake t) (Replied (replies.Elsewhere s)) es after p was f =
      joins_rises r m t f.answer f.left after p (next_rises m (Call t ops.Leave) f.answer es f.left tt (prefix after f.left (joins_start r m t f.answer f.left after f.joins) p) was f.leaves) f.joins
  follows_rises r m act answer es after p was f = subst (Rises m) (sym f) was

  pub line_rises : (k r : ℕ) (line : Line) (es after : List Entry) → k ≤ line.m → Rises k es → P after → AsksLine r es line after → Rises line.m after
  line_rises k r line es after low was p f =
      let due = due_rises k line.m f.timers.timers es f.due low was f.timers.each in
      let before = raised due.0 line.m f.due due.1 due.2 f.timers.none in
      let asked = next_rises line.m (ask_of r line.m line.act) f.answer f.due f.asked (line_ask r line.m line.act) (prefix after f.asked (follows_start r line.m line.act f.answer f.asked after f.follows) p) before f.line_asked in
      follows_rises r line.m line.act f.answer f.asked after p asked f.follows
