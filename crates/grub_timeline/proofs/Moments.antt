-- The moments of a time line.
use Rattle.std.proofs.Common.{◌≡◌, ℕ, ◌<◌, ◌≤◌, List, [], ◌∷◌, ◌++◌, sym, ap, ◌∙◌, subst, ⊎_elim, arith}
use Rattle.std.specs.List.{AllByRecursion, FoldsTo}
use Rattle.std.proofs.lemmas.List.Elements.{All-from_recursion, All-weaker, recursion_from_All}
use Rattle.grub_book.specs.Machine.{Machine}
use Rattle.grub_book.specs.Sums.{Records, opening_book}
use Rattle.grub_book.specs.declared.reply.Reply.{Reply}
use Rattle.grub_book.specs.declared.reply.Reply.TheVariants.{Waiting}
use Rattle.grub_plan.specs.declared.entry.Ask.{Ask}
use Rattle.grub_plan.specs.declared.entry.Ask.TheVariants.{Call, Read}
use Rattle.grub_plan.specs.declared.entry.Answer.{Answer}
use Rattle.grub_plan.specs.declared.entry.Answer.TheVariants.{Replied, Seen, Busy, Lost}
use Rattle.grub_plan.specs.declared.entry.Entry.{Entry}
use Rattle.grub_plan.specs.Plans.{PlanView}
use Rattle.grub_plan.specs.Asked.{entry}
use Rattle.grub_plan.proofs.Waits.{waits_step}
use Rattle.grub_timeline.specs.declared.order.PlacedLine.{PlacedLine}
use Rattle.grub_timeline.specs.declared.told.ToldEntry.{ToldEntry}
use Rattle.grub_book.specs.declared.event.Reading.{Reading}
use Rattle.grub_timeline.specs.Order.{IsNotLater, IsSorted}
use Rattle.grub_timeline.specs.TimeLines.{AsksPlaced, DoNotGoBack, IsTimeLine, entries_of}
use Rattle.grub_timeline.proofs.Answering.{IsBy, answer_of, by_last, by_prefix, runqueues_of}
use Rattle.grub_timeline.proofs.Only.{IsGiven, by_line, given_first, lines_start}
use Rattle.grub_timeline.proofs.Rising.{AnswersRightly, Rises, line_rises, rises_nothing}

-- what a book answers waits only to a block
right_answer : (s : Machine) (q : ℕ) (book : Records) (ask : Ask) (answer : Answer) → answer ≡ answer_of s q book ask → AnswersRightly ask answer
right_answer s q book (Call t op) answer is = λ ticket z waits. waits_step s book t op ticket z (ap (λ a. reply_of a) (sym is ∙ waits))
  where
    reply_of : Answer → Reply
    reply_of (Replied reply) = reply
    reply_of (Seen reading) = Waiting 0 0
    reply_of Busy = Waiting 0 0
    reply_of Lost = Waiting 0 0
right_answer s q book Read answer is = tt

module _ (s : Machine) where
  right_last : (r : ℕ) (rs : List ℕ) (m : ℕ) (ask : Ask) (before : List Entry) (answer : Answer) → IsBy s r rs (opening_book s) (before ++ entry m ask answer ∷ []) → AnswersRightly ask answer
  right_last r rs m ask before answer by = let last = by_last s r rs (opening_book s) before (entry m ask answer) by in right_answer s last.0 last.1 ask answer last.2

  order_rises : (m : ℕ) (order : List PlacedLine) (before after : List ToldEntry) → IsSorted order → AllByRecursion (λ (q : PlacedLine). m ≤ q.line.m) order → Rises m (entries_of before) → FoldsTo AsksPlaced before order after → IsGiven s after
      → (n : ℕ) × Rises n (entries_of after)
  order_rises m [] before after sorted low was f given = (m, subst (λ told. Rises m (entries_of told)) f was)
  order_rises m (p ∷ ps) before after sorted low was f given =
      let here = given_first s after f.0 (lines_start ps f.0 after f.2) given in
      let P = IsBy s p.runqueue (runqueues_of before) (opening_book s) in
      let next = line_rises P (by_prefix s p.runqueue (runqueues_of before) (opening_book s)) (right_last p.runqueue (runqueues_of before)) m p.runqueue p.line (entries_of before) (entries_of f.0) low.0 was (by_line s p before f.0 f.1 here) f.1.asked in
      order_rises p.line.m ps f.0 after sorted.1 (recursion_from_All (λ (q : PlacedLine). p.line.m ≤ q.line.m) ps (All-weaker (IsNotLater p) (λ (q : PlacedLine). p.line.m ≤ q.line.m) (λ q h. no_earlier p q h) ps (All-from_recursion (IsNotLater p) ps sorted.0))) next f.2 given
    where
      no_earlier : (p q : PlacedLine) → IsNotLater p q → p.line.m ≤ q.line.m
      no_earlier p q a = ⊎_elim (λ (h : p.line.m < q.line.m). omega arith) (λ (h : (p.line.m ≡ q.line.m) × (p.runqueue ≤ q.runqueue)). let same = h.0 in omega (arith, same)) a

from_start : (order : List PlacedLine) → AllByRecursion (λ (q : PlacedLine). 0 ≤ q.line.m) order
from_start [] = tt
from_start (p ∷ ps) = (omega arith, from_start ps)

pub moments_rise : (plan : PlanView) (told : List ToldEntry) (closing : List Reading) → IsTimeLine plan told closing → DoNotGoBack told
moments_rise plan told closing f = (order_rises plan.setup 0 f.order [] told f.sorted.sorted (from_start f.order) rises_nothing f.asked (record { legal = f.legal; answered = f.answered })).1.up
