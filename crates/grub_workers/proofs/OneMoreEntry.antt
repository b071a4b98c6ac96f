-- One more entry.
use Rattle.std.proofs.Common.{◌≡◌, ℕ, List, [], ◌∷◌, ◌++◌, length, sym, ap, ◌∙◌, subst, arith}
use Rattle.std.proofs.lemmas.List.Elements.{All-push}
use Rattle.std.proofs.lemmas.Grind.{common_steps}
use Rattle.grub_book.specs.declared.event.Reading.{Reading}
use Rattle.grub_book.specs.declared.event.Event.TheVariants as events
use Rattle.grub_table.specs.declared.pass.Pass.{Pass}
use Rattle.grub_table.specs.declared.shared.Shared.{Shared}
use Rattle.grub_table.specs.Knowing.{GoesOn, Learns}
use Rattle.grub_table.specs.Marks.{marker_of}
use Rattle.grub_book.specs.History.{pass_of}
use Rattle.grub_table.specs.Calls.{IsPassOf, number_of, share_of, seen, marks}
use Rattle.grub_plan.specs.declared.entry.Ask.{Ask}
use Rattle.grub_plan.specs.declared.entry.Ask.TheVariants.{Read}
use Rattle.grub_plan.specs.declared.entry.Answer.{Answer}
use Rattle.grub_plan.specs.declared.entry.Answer.TheVariants.{Seen}
use Rattle.grub_plan.specs.declared.entry.Entry.{Entry}
use Rattle.grub_plan.specs.Asked.{entry}
use Rattle.grub_plan.specs.Plans.{IsAskOf}
use Rattle.grub_plan.specs.Answers.{AreAsksOf, event_told, events_told}
use Rattle.grub_workers.specs.inside.Entries.{mark_told, marks_told}
use Rattle.grub_workers.specs.inside.Evidence.{AreBacked, IsBacked}
use Rattle.grub_workers.specs.inside.Working.{IsAsked, IsToldBy, machine}
use Rattle.grub_plan.proofs.Starts.{events_more}
use Rattle.grub_workers.proofs.KnowingMore.{all_backed_later}

marks_more : (i : ℕ) (es : List Entry) (e : Entry) → marks_told i (es ++ e ∷ []) ≡ marks_told i es ++ mark_told i e.ask e.answer
marks_more i es e = grind (arith, common_steps)

-- what the pass knows after one more ask, of which this is the entry
pub entered : (s : Shared) (tries i m : ℕ) (p q : Pass) (old new : List Entry) (ask : Ask) (answer : Answer) → IsAskOf (length (machine s).tasks) ask → IsToldBy s tries i p old → IsAsked s tries p ask q answer → new ≡ old ++ entry m ask answer ∷ [] → IsToldBy s tries i q new
entered s tries i m p q old new ask answer there told asked list =
    let e : Entry = entry m ask answer in
    let f : GoesOn pass_of i (seen p) (seen q) (event_told i ask answer) = subst (λ n. GoesOn pass_of n (seen p) (seen q) (event_told n ask answer)) told.number asked.learns.seen in
    let g : GoesOn marker_of i (marks p) (marks q) (mark_told i ask answer) = subst (λ n. GoesOn marker_of n (marks p) (marks q) (mark_told n ask answer)) told.number asked.learns.marked in
    let b : IsBacked (machine s) tries i (seen q) (marks q) ask answer = subst (λ n. IsBacked (machine s) tries n (seen q) (marks q) ask answer) told.number asked.backed in
    record {
      of = asked.of;
      number = asked.learns.number ∙ told.number;
      calls = f.own ∙ ap (λ l. l ++ event_told i ask answer) told.calls ∙ sym (ap (events_told i) list ∙ events_more i old e);
      own_marks = g.own ∙ ap (λ l. l ++ mark_told i ask answer) told.own_marks ∙ sym (ap (marks_told i) list ∙ marks_more i old e);
      tasks = subst (AreAsksOf (machine s)) (sym list) (All-push (λ (k : Entry). IsAskOf (length (machine s).tasks) k.ask) old e told.tasks there);
      backed = subst (AreBacked (machine s) tries i (seen q) (marks q)) (sym list)
          (All-push (λ (k : Entry). IsBacked (machine s) tries i (seen q) (marks q) k.ask k.answer) old e (all_backed_later (machine s) tries i (seen p) (seen q) (marks p) (marks q) old f.starts g.starts told.backed) b);
    }

-- a reading is one ask
pub looked : (s : Shared) (tries r : ℕ) (p q : Pass) (reading : Reading) → number_of p ≡ r → IsPassOf s q → Learns (share_of p) (share_of q) (events.Look (number_of p) r reading ∷ []) [] → IsAsked s tries p Read q (Seen reading)
looked s tries r p q reading is of learns = record {
  of = of;
  learns = subst (λ n. Learns (share_of p) (share_of q) (events.Look (number_of p) n reading ∷ []) []) (sym is) learns;
  backed = tt;
}
