-- The entries of a script ask for no task and no runqueue but those that it names.
use Rattle.std.proofs.Common.{◌≡◌, ℕ, cond, nat_eq, Bool, true, false, List, [], ◌∷◌, fold, ◌++◌, get_or, Option, Some, None, refl, sym, subst}
use Rattle.std.specs.List.{All, FoldsTo}
use Rattle.std.proofs.lemmas.Bool.{eqb-true}
use Rattle.std.proofs.lemmas.List.{get_or_default}
use Rattle.std.proofs.lemmas.List.Elements.{All-head, All-nil, All-push, All-tail}
use Rattle.grub_book.specs.declared.op.Op.{Op}
use Rattle.grub_book.specs.declared.op.Op.TheVariants as ops
use Rattle.grub_book.specs.declared.reply.Reply.TheVariants as replies
use Rattle.grub_plan.specs.declared.line.Act.{Act}
use Rattle.grub_plan.specs.declared.line.Act.TheVariants as acts
use Rattle.grub_plan.specs.Plans.{Line, named}
use Rattle.grub_plan.specs.declared.entry.Ask.{Ask}
use Rattle.grub_plan.specs.declared.entry.Ask.TheVariants.{Call, Read}
use Rattle.grub_plan.specs.declared.entry.Answer.{Answer}
use Rattle.grub_plan.specs.declared.entry.Answer.TheVariants.{Replied}
use Rattle.grub_plan.specs.declared.entry.Entry.{Entry}
use Rattle.grub_plan.specs.Asked.{Asked, AsksLine, AsksTimer, Follows, JoinsAfter, ask_of, entry}
use Rattle.grub_wheel.specs.declared.timer.Timer.{Timer}
use Rattle.grub_plan.specs.Timers.{Alarm, touch, touch_of_call}
use Rattle.grub_plan.specs.inside.Touches.{alarm_after, leaves}
use Rattle.grub_workers.specs.Apart.{Names}

-- the op names no runqueue, or one for which Q holds
abbrev pub NamesAt : (ℕ → Type 0) → Op → Type 0
NamesAt Q (ops.Join r m) = Q r
NamesAt Q (ops.Wake r m) = Q r
NamesAt Q (ops.Block r m) = Q r
NamesAt Q (ops.Charge r dt) = Q r
NamesAt Q ops.Leave = Unit {0}
NamesAt Q (ops.Timer ticket m) = Unit {0}
NamesAt Q (ops.Retune q p) = Unit {0}
NamesAt Q ops.Exit = Unit {0}

-- an ask of worker r, on a task for which N holds
abbrev pub IsOwnAsk : ℕ → (ℕ → Type 0) → Ask → Type 0
IsOwnAsk r N (Call t op) = N t × NamesAt (λ q. q ≡ r) op
IsOwnAsk r N Read = Unit {0}

module _ (r : ℕ) (N : ℕ → Type 0) where
  abbrev AreOwn : List Entry → Type 0
  AreOwn es = All (λ (e : Entry). IsOwnAsk r N e.ask) es

  -- a timer is armed for a task alone that an entry asked for
  armed_own : (t : ℕ) (es : List Entry) (before : Option Alarm) (a : Alarm) → AreOwn es → ((b : Alarm) → before ≡ Some b → N t) → fold (λ alarm e. alarm_after (touch t e.ask e.answer) alarm) before es ≡ Some a → N t
  armed_own t [] before a own known is = known a is
  armed_own t (e ∷ es) before a own known is =
      armed_own t es (alarm_after (touch t e.ask e.answer) before) a (All-tail (λ (k : Entry). IsOwnAsk r N k.ask) e es own)
      (touched e.ask e.answer (All-head (λ (k : Entry). IsOwnAsk r N k.ask) e es own)) is
    where
      touched : (ask : Ask) (answer : Answer) → IsOwnAsk r N ask → (b : Alarm) → alarm_after (touch t ask answer) before ≡ Some b → N t
      touched Read answer here b at = known b at
      touched (Call u op) answer here b at = go (nat_eq t u) refl at
        where
          go : (same : Bool) → nat_eq t u ≡ same → alarm_after (cond same (touch_of_call op answer) leaves) before ≡ Some b → N t
          go true on at = subst N (sym (eqb-true t u on)) here.0
          go false off at = known b at

  own_more : (before after : List Entry) (m : ℕ) (ask : Ask) (answer : Answer) → after ≡ before ++ entry m ask answer ∷ [] → IsOwnAsk r N ask → AreOwn before → AreOwn after
  own_more before after m ask answer list here own = subst AreOwn (sym list) (All-push (λ (e : Entry). IsOwnAsk r N e.ask) before (entry m ask answer) own here)

  timers_own : (m : ℕ) (xs : List Timer) (before after : List Entry) → FoldsTo (AsksTimer m) before xs after → AreOwn before → AreOwn after
  timers_own m [] before after f own = subst AreOwn f own
  timers_own m (x ∷ xs) before after f own =
      let there : N x.t = armed_own x.t before None (x.z, x.ticket) own (λ b none. absurd (cc)) f.1.next.armed in
      timers_own m xs f.0 after f.2 (own_more before f.0 x.z (Call x.t (ops.Timer x.ticket x.z)) f.1.asks.answer f.1.asks.list (there, tt) own)

  act_own : (m : ℕ) (act : Act ℕ ℕ) → ((t : ℕ) → named act ≡ Some t → N t) → IsOwnAsk r N (ask_of r m act)
  act_own m (acts.Join t) named = (named t refl, refl)
  act_own m (acts.Wake t) named = (named t refl, refl)
  act_own m (acts.Block t) named = (named t refl, refl)
  act_own m (acts.Leave t) named = (named t refl, tt)
  act_own m (acts.Exit t) named = (named t refl, tt)
  act_own m (acts.Run t dt) named = (named t refl, refl)
  act_own m (acts.Retune t q p) named = (named t refl, tt)
  act_own m acts.Read named = tt

  joins_own : (m t : ℕ) (answer : Answer) (before after : List Entry) → N t → JoinsAfter r m t answer before after → AreOwn before → AreOwn after
  joins_own m t (Replied (replies.Left q)) before after there f own = own_more before after m (Call t (ops.Join r m)) f.answer f.list (there, refl) own
  joins_own m t answer before after there f own = subst AreOwn (sym f) own

  follows_own : (m : ℕ) (act : Act ℕ ℕ) (answer : Answer) (before after : List Entry) → ((t : ℕ) → named act ≡ Some t → N t) → Follows r m act answer before after → AreOwn before → AreOwn after
  follows_own m (acts.Wake t) (Replied (replies.Elsewhere q)) before after named f own =
      joins_own m t f.answer f.left after (named t refl) f.joins (own_more before f.left m (Call t ops.Leave) f.answer f.leaves (named t refl, tt) own)
  follows_own m act answer before after named f own = subst AreOwn (sym f) own

  line_own : (line : Line) (before after : List Entry) → ((t : ℕ) → named line.act ≡ Some t → N t) → AsksLine r before line after → AreOwn before → AreOwn after
  line_own line before after named f own =
      follows_own line.m line.act f.answer f.asked after named f.follows
      (own_more f.due f.asked line.m (ask_of r line.m line.act) f.answer f.line_asked (act_own line.m line.act named)
      (timers_own line.m f.timers.timers before f.due f.timers.each own))

  lines_own : (lines : List Line) (before after : List Entry) → All (λ (line : Line). (t : ℕ) → named line.act ≡ Some t → N t) lines → FoldsTo (AsksLine r) before lines after → AreOwn before → AreOwn after
  lines_own [] before after names f own = subst AreOwn f own
  lines_own (line ∷ lines) before after names f own =
      lines_own lines f.0 after (All-tail (λ (l : Line). (t : ℕ) → named l.act ≡ Some t → N t) line lines names) f.2
      (line_own line before f.0 (All-head (λ (l : Line). (t : ℕ) → named l.act ≡ Some t → N t) line lines names) f.1 own)

pub script_own : (r : ℕ) (script : List Line) (es : List Entry) → Asked r script es → All (λ (e : Entry). IsOwnAsk r (Names script) e.ask) es
script_own r script es asked =
    lines_own r (Names script) script [] es (λ k d low t is. (k, get_or script k d, low, get_or_default script k (get_or script k d) d low, is)) asked (All-nil (λ (e : Entry). IsOwnAsk r (Names script) e.ask))
