-- Where a worker's own calls are a history of a one-thread book, and none was given up, its script and that book determine its entries.
use Rattle.std.proofs.Common.{◌≡◌, ℕ, List, [], ◌∷◌, ◌++◌, refl, sym, ap, ◌∙◌, subst}
use Rattle.std.specs.List.{All, FoldsTo}
use Rattle.std.proofs.lemmas.List.Elements.{All-head}
use mathlib.Core.List.{IsPrefix}
use Rattle.grub_book.specs.Machine.{Machine}
use Rattle.grub_book.specs.Step.{step}
use Rattle.grub_book.specs.Sums.{Records, reading_of}
use Rattle.grub_book.specs.History.{IsLegal, book_of}
use Rattle.grub_book.specs.declared.event.Event.{Event}
use Rattle.grub_book.specs.declared.event.Event.TheVariants as events
use Rattle.grub_book.proofs.Histories.{legal_last, legal_prefix}
use Rattle.grub_plan.specs.Plans.{Line}
use Rattle.grub_plan.specs.declared.entry.Ask.{Ask}
use Rattle.grub_plan.specs.declared.entry.Ask.TheVariants.{Call, Read}
use Rattle.grub_plan.specs.declared.entry.Answer.{Answer}
use Rattle.grub_plan.specs.declared.entry.Answer.TheVariants.{Replied, Seen}
use Rattle.grub_plan.specs.declared.entry.Entry.{Entry}
use Rattle.grub_plan.specs.Asked.{AsksLine, entry}
use Rattle.grub_plan.specs.Answers.{IsAnswered, event_told, events_told}
use Rattle.grub_plan.proofs.Parts.{all_left, all_right}
use Rattle.grub_plan.proofs.Starts.{events_more, events_told-append}
use Rattle.grub_plan.proofs.Alike.{script_alike as alike}

-- ---- the worker of runqueue own
module _ (own : ℕ) where
  -- what a book answers at once
  abbrev answer_of : Machine → Records → Ask → Answer
  answer_of s book (Call t op) = Replied (step s book t op).1
  answer_of s book Read = Seen (reading_of book own)

  -- a one-thread book could have given the entries, and each ask was answered
  pub record IsPlain (s : Machine) (es : List Entry) : Type 0 where
    pub legal : IsLegal s (events_told own es)
    pub answered : All (λ (e : Entry). IsAnswered e.ask e.answer) es

  plain_first : (s : Machine) (later earlier : List Entry) → IsPrefix earlier later → IsPlain s later → IsPlain s earlier
  plain_first s later earlier starts p = record {
    legal = legal_prefix s (events_told own later) (events_told own earlier) (events_told own starts.0, sym (events_told-append own earlier starts.0) ∙ ap (events_told own) starts.1) p.legal;
    answered = all_left (λ (e : Entry). IsAnswered e.ask e.answer) earlier starts.0 (subst (All (λ (e : Entry). IsAnswered e.ask e.answer)) (sym starts.1) p.answered);
  }

  told_answer : (s : Machine) (h : List Event) (ask : Ask) (answer : Answer) → IsAnswered ask answer → IsLegal s (h ++ event_told own ask answer) → answer ≡ answer_of s (book_of s h) ask
  told_answer s h (Call t op) (Replied reply) a legal = ap Replied (sym (legal_last s h (events.Call own t op reply) legal).2)
  told_answer s h Read (Seen reading) a legal = ap Seen (sym (legal_last s h (events.Look own own reading) legal).1)
  told_answer s h ask answer a legal = absurd a

  -- one entry more with the same ask
  last_answer : (s : Machine) (m : ℕ) (ask : Ask) (before after : List Entry) (answer : Answer) → after ≡ before ++ entry m ask answer ∷ [] → IsPlain s after → answer ≡ answer_of s (book_of s (events_told own before)) ask
  last_answer s m ask before after answer list p =
      let e : Entry = entry m ask answer in
      let told : All (λ (k : Entry). IsAnswered k.ask k.answer) (before ++ e ∷ []) = subst (All (λ (k : Entry). IsAnswered k.ask k.answer)) list p.answered in
      let here = All-head (λ (k : Entry). IsAnswered k.ask k.answer) e [] (all_right (λ (k : Entry). IsAnswered k.ask k.answer) before (e ∷ []) told) in
      told_answer s (events_told own before) ask answer here (subst (IsLegal s) (ap (events_told own) list ∙ events_more own before e) p.legal)

  same_answer : (s : Machine) (m : ℕ) (ask : Ask) (before : List Entry) (a b : Answer) → IsPlain s (before ++ entry m ask a ∷ []) → IsPlain s (before ++ entry m ask b ∷ []) → a ≡ b
  same_answer s m ask before a b p q = last_answer s m ask before _ a refl p ∙ sym (last_answer s m ask before _ b refl q)

  pub script_alike : (s : Machine) (script : List Line) (before j k : List Entry) → FoldsTo (AsksLine own) before script j → FoldsTo (AsksLine own) before script k → IsPlain s j → IsPlain s k → j ≡ k
  script_alike s script before j k f g p q = alike own (IsPlain s) (plain_first s) (same_answer s) script before j k f g p q
