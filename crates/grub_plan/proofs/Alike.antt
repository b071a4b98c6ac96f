-- Where each answer is determined by what was asked before, so is the list of entries.
use Rattle.std.proofs.Common.{◌≡◌, ◌⊎◌, ℕ, ◌<◌, ◌≤◌, List, [], ◌∷◌, ◌++◌, sym, ap, ◌∙◌, subst, ⊎_elim, arith, Some}
use Rattle.std.specs.List.{FoldsTo}
use mathlib.Core.List.{IsPrefix}
use Rattle.grub_book.specs.declared.op.Op.TheVariants as ops
use Rattle.grub_book.specs.declared.reply.Reply.TheVariants as replies
use Rattle.grub_plan.specs.Plans.{Line}
use Rattle.grub_plan.specs.declared.line.Act.{Act}
use Rattle.grub_plan.specs.declared.line.Act.TheVariants as acts
use Rattle.grub_plan.specs.declared.entry.Ask.{Ask}
use Rattle.grub_plan.specs.declared.entry.Ask.TheVariants.{Call}
use Rattle.grub_plan.specs.declared.entry.Answer.{Answer}
use Rattle.grub_plan.specs.declared.entry.Answer.TheVariants.{Replied}
use Rattle.grub_plan.specs.declared.entry.Entry.{Entry}
use Rattle.grub_plan.specs.Asked.{AsksLine, AsksTimer, Follows, JoinsAfter, ask_of, entry}
use Rattle.grub_wheel.specs.declared.timer.Timer.{Timer}
use Rattle.grub_wheel.specs.TimerBag.{IsNotAfter}
use Rattle.grub_plan.specs.Timers.{NoneDue, armed}
use Rattle.grub_plan.proofs.Starts.{follows_start, joins_start, next_start, script_start, timers_start}

-- ---- lines of runqueue own; P holds of what is answered by a book, and of each beginning of it
module _
    (own : ℕ) (P : List Entry → Type 0)
    (prefix : (later earlier : List Entry) → IsPrefix earlier later → P later → P earlier)
    (one : (m : ℕ) (ask : Ask) (before : List Entry) (a b : Answer) → P (before ++ entry m ask a ∷ []) → P (before ++ entry m ask b ∷ []) → a ≡ b) where
  same_entry : (m : ℕ) (ask : Ask) (before j k : List Entry) (a b : Answer) → j ≡ before ++ entry m ask a ∷ [] → k ≡ before ++ entry m ask b ∷ [] → P j → P k → (a ≡ b) × (j ≡ k)
  same_entry m ask before j k a b first second p q =
      let same : a ≡ b = one m ask before a b (subst P first p) (subst P second q) in
      (same, first ∙ ap (λ c. before ++ entry m ask c ∷ []) same ∙ sym second)

  -- ---- timers
  tasks_alike : (t k t' k' : ℕ) → (t < t') ⊎ ((t ≡ t') × (k ≤ k')) → (t' < t) ⊎ ((t' ≡ t) × (k' ≤ k)) → (t ≡ t') × (k ≡ k')
  tasks_alike t k t' k' a b = ⊎_elim
      (λ (h : t < t'). ⊎_elim (λ (l : t' < t). absurd (omega arith)) (λ (l : (t' ≡ t) × (k' ≤ k)). let same = l.0 in absurd (omega (arith, h, same))) b)
      (λ (h : (t ≡ t') × (k ≤ k')). ⊎_elim
      (λ (l : t' < t). let same = h.0 in absurd (omega (arith, l, same)))
      (λ (l : (t' ≡ t) × (k' ≤ k)). let up = h.1 in let down = l.1 in (h.0, omega (arith, up, down)))
      b)
      a

  first_alike : (x y : Timer) → IsNotAfter x y → IsNotAfter y x → (x.z ≡ y.z) × ((x.t ≡ y.t) × (x.ticket ≡ y.ticket))
  first_alike x y a b = ⊎_elim
      (λ (h : x.z < y.z). ⊎_elim (λ (l : y.z < x.z). absurd (omega arith)) (λ (l : (y.z ≡ x.z) × ((y.t < x.t) ⊎ ((y.t ≡ x.t) × (y.ticket ≤ x.ticket)))). let same = l.0 in absurd (omega (arith, h, same))) b)
      (λ (h : (x.z ≡ y.z) × ((x.t < y.t) ⊎ ((x.t ≡ y.t) × (x.ticket ≤ y.ticket)))). ⊎_elim
      (λ (l : y.z < x.z). let same = h.0 in absurd (omega (arith, l, same)))
      (λ (l : (y.z ≡ x.z) × ((y.t < x.t) ⊎ ((y.t ≡ x.t) × (y.ticket ≤ x.ticket)))). (h.0, tasks_alike x.t x.ticket y.t y.ticket h.1 l.1))
      b)
      a

  due_alike : (m : ℕ) (xs ys : List Timer) (before j k : List Entry) → FoldsTo (AsksTimer m) before xs j → FoldsTo (AsksTimer m) before ys k → NoneDue (armed j) m → NoneDue (armed k) m → P j → P k → j ≡ k
  due_alike m [] [] before j k f g none none' p q = sym f ∙ g
  due_alike m [] (y ∷ ys) before j k f g none none' p q =
      let late : m < y.z = none y (subst (λ es. armed es y.t ≡ Some (y.z, y.ticket)) f g.1.next.armed) in
      let due = g.1.next.due in absurd (omega (arith, late, due))
  due_alike m (x ∷ xs) [] before j k f g none none' p q =
      let late : m < x.z = none' x (subst (λ es. armed es x.t ≡ Some (x.z, x.ticket)) g f.1.next.armed) in
      let due = f.1.next.due in absurd (omega (arith, late, due))
  due_alike m (x ∷ xs) (y ∷ ys) before j k f g none none' p q =
      let one = f.1.next in let two = g.1.next in
      let alike = first_alike x y (one.least y two.armed two.due) (two.least x one.armed one.due) in
      let ask : ℕ → ℕ → ℕ → Answer → Entry = λ z t ticket answer. entry z (Call t (ops.Timer ticket z)) answer in
      let list : g.0 ≡ before ++ ask x.z x.t x.ticket g.1.asks.answer ∷ [] = g.1.asks.list ∙ λ i. before ++ ask (sym alike.0 i) (sym alike.1.0 i) (sym alike.1.1 i) g.1.asks.answer ∷ [] in
      let plain = prefix j f.0 (timers_start m xs f.0 j f.2) p in
      let plain' = prefix k g.0 (timers_start m ys g.0 k g.2) q in
      let same = same_entry x.z (Call x.t (ops.Timer x.ticket x.z)) before f.0 g.0 f.1.asks.answer g.1.asks.answer f.1.asks.list list plain plain' in
      due_alike m xs ys f.0 j k f.2 (subst (λ es. FoldsTo (AsksTimer m) es ys k) (sym same.1) g.2) none none' p q

  -- ---- lines
  joins_alike : (m t : ℕ) (answer : Answer) (before j k : List Entry) → JoinsAfter own m t answer before j → JoinsAfter own m t answer before k → P j → P k → j ≡ k
  joins_alike m t (Replied (replies.Left r)) before j k f g p q = (same_entry m (Call t (ops.Join own m)) before j k f.answer g.answer f.list g.list p q).1
  joins_alike m t answer before j k f g p q = f ∙ sym g

  follows_alike : (m : ℕ) (act : Act ℕ ℕ) (answer : Answer) (before j k : List Entry) → Follows own m act answer before j → Follows own m act answer before k → P j → P k → j ≡ k
  follows_alike m (acts.Wake t) (Replied (replies.Elsewhere r)) before j k f g p q =
      let plain = prefix j f.left (joins_start own m t f.answer f.left j f.joins) p in
      let plain' = prefix k g.left (joins_start own m t g.answer g.left k g.joins) q in
      let same = same_entry m (Call t ops.Leave) before f.left g.left f.answer g.answer f.leaves g.leaves plain plain' in
      joins_alike m t f.answer f.left j k f.joins (subst (λ (c : Answer × List Entry). JoinsAfter own m t c.0 c.1 k) (λ i. (sym same.0 i, sym same.1 i)) g.joins) p q
  follows_alike m act answer before j k f g p q = f ∙ sym g

  pub line_alike : (line : Line) (before j k : List Entry) → AsksLine own before line j → AsksLine own before line k → P j → P k → j ≡ k
  line_alike line before j k f g p q =
      let asked = prefix j f.asked (follows_start own line.m line.act f.answer f.asked j f.follows) p in
      let asked' = prefix k g.asked (follows_start own line.m line.act g.answer g.asked k g.follows) q in
      let due = prefix f.asked f.due (next_start f.due f.asked _ f.line_asked) asked in
      let due' = prefix g.asked g.due (next_start g.due g.asked _ g.line_asked) asked' in
      let same_due = due_alike line.m f.timers.timers g.timers.timers before f.due g.due f.timers.each g.timers.each f.timers.none g.timers.none due due' in
      let list : g.asked ≡ f.due ++ entry line.m (ask_of own line.m line.act) g.answer ∷ [] = g.line_asked ∙ ap (λ es. es ++ entry line.m (ask_of own line.m line.act) g.answer ∷ []) (sym same_due) in
      let same = same_entry line.m (ask_of own line.m line.act) f.due f.asked g.asked f.answer g.answer f.line_asked list asked asked' in
      follows_alike line.m line.act f.answer f.asked j k f.follows (subst (λ (c : Answer × List Entry). Follows own line.m line.act c.0 c.1 k) (λ i. (sym same.0 i, sym same.1 i)) g.follows) p q

  pub script_alike : (script : List Line) (before j k : List Entry) → FoldsTo (AsksLine own) before script j → FoldsTo (AsksLine own) before script k → P j → P k → j ≡ k
  script_alike [] before j k f g p q = sym f ∙ g
  script_alike (line ∷ lines) before j k f g p q =
      let plain = prefix j f.0 (script_start own lines f.0 j f.2) p in
      let plain' = prefix k g.0 (script_start own lines g.0 k g.2) q in
      let same = line_alike line before f.0 g.0 f.1 g.1 plain plain' in
      script_alike lines f.0 j k f.2 (subst (λ es. FoldsTo (AsksLine own) es lines k) (sym same) g.2) p q
