-- What was asked begins with what was asked before.
use Rattle.std.proofs.Common.{◌≡◌, ℕ, List, [], ◌∷◌, ◌++◌, sym, ◌∙◌, arith, append-nil}
use Rattle.std.specs.List.{FoldsTo}
use Rattle.std.proofs.lemmas.Grind.{common_steps}
use mathlib.Core.List.{IsPrefix}
use Rattle.grub_book.specs.declared.reply.Reply.TheVariants as replies
use Rattle.grub_book.proofs.Histories.{starts_after}
use Rattle.grub_plan.specs.Plans.{Line}
use Rattle.grub_plan.specs.declared.line.Act.{Act}
use Rattle.grub_plan.specs.declared.line.Act.TheVariants as acts
use Rattle.grub_plan.specs.declared.entry.Answer.{Answer}
use Rattle.grub_plan.specs.declared.entry.Answer.TheVariants.{Replied}
use Rattle.grub_plan.specs.declared.entry.Entry.{Entry}
use Rattle.grub_plan.specs.Answers.{event_told, events_told}
use Rattle.grub_wheel.specs.declared.timer.Timer.{Timer}
use Rattle.grub_plan.specs.Asked.{AsksLine, AsksTimer, Follows, JoinsAfter}

pub events_more : (i : ℕ) (es : List Entry) (e : Entry) → events_told i (es ++ e ∷ []) ≡ events_told i es ++ event_told i e.ask e.answer
events_more i es e = grind (arith, common_steps)

pub events_told-append : (i : ℕ) (es more : List Entry) → events_told i (es ++ more) ≡ events_told i es ++ events_told i more
events_told-append i es more = grind (arith, common_steps)

pub next_start : (before after : List Entry) (e : Entry) → after ≡ before ++ e ∷ [] → IsPrefix before after
next_start before after e list = (e ∷ [], sym list)

pub same_start : (before after : List Entry) → after ≡ before → IsPrefix before after
same_start before after same = ([], append-nil before ∙ sym same)

pub timers_start : (m : ℕ) (xs : List Timer) (before after : List Entry) → FoldsTo (AsksTimer m) before xs after → IsPrefix before after
timers_start m [] before after f = same_start before after (sym f)
timers_start m (x ∷ xs) before after f = starts_after after f.0 before (timers_start m xs f.0 after f.2) (next_start before f.0 _ f.1.asks.list)

pub joins_start : (r m t : ℕ) (answer : Answer) (before after : List Entry) → JoinsAfter r m t answer before after → IsPrefix before after
joins_start r m t (Replied (replies.Left q)) before after f = next_start before after _ f.list
joins_start r m t answer before after f = same_start before after f

pub follows_start : (r m : ℕ) (act : Act ℕ ℕ) (answer : Answer) (before after : List Entry) → Follows r m act answer before after → IsPrefix before after
follows_start r m (acts.Wake t) (Replied (replies.Elsewhere q)) before after f = starts_after after f.left before (joins_start r m t f.answer f.left after f.joins) (next_start before f.left _ f.leaves)
follows_start r m act answer before after f = same_start before after f

pub line_start : (r : ℕ) (line : Line) (before after : List Entry) → AsksLine r before line after → IsPrefix before after
line_start r line before after f =
    starts_after after f.asked before (follows_start r line.m line.act f.answer f.asked after f.follows)
    (starts_after f.asked f.due before (next_start f.due f.asked _ f.line_asked) (timers_start line.m f.timers.timers before f.due f.timers.each))

pub script_start : (r : ℕ) (script : List Line) (before after : List Entry) → FoldsTo (AsksLine r) before script after → IsPrefix before after
script_start r [] before after f = same_start before after (sym f)
script_start r (line ∷ lines) before after f = starts_after after f.0 before (script_start r lines f.0 after f.2) (line_start r line before f.0 f.1)
