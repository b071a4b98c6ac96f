-- A plan has one time line.
use Rattle.std.proofs.Common.{◌≡◌, ℕ, List, [], ◌∷◌, ◌++◌, get_or, drop, refl, sym, ap, ◌∙◌, subst, arith, append-nil}
use Rattle.std.specs.List.{FoldsTo}
use Rattle.std.proofs.lemmas.Grind.{common_steps}
use Rattle.std.proofs.lemmas.List.{ext_get_or, append_cancel_left}
use Rattle.std.proofs.lemmas.Option.{slice_get-get_or}
use mathlib.Core.List.{IsPrefix}
use Rattle.grub_book.specs.Machine.{Machine}
use Rattle.grub_book.specs.Sums.{opening_book}
use Rattle.grub_book.specs.History.{IsLegal}
use Rattle.grub_book.specs.declared.event.Event.{Event}
use Rattle.grub_book.specs.declared.event.Reading.{Reading}
use Rattle.grub_book.proofs.Histories.{legal_prefix, starts_after}
use Rattle.grub_plan.specs.declared.entry.Entry.{Entry}
use Rattle.grub_plan.specs.Plans.{PlanView}
use Rattle.grub_plan.specs.Answers.{IsAnswered}
use Rattle.grub_plan.proofs.Alike.{line_alike}
use Rattle.grub_plan.proofs.Parts.{all_left}
use Rattle.grub_timeline.specs.declared.order.PlacedLine.{PlacedLine}
use Rattle.grub_timeline.specs.declared.told.ToldEntry.{ToldEntry}
use Rattle.grub_timeline.specs.TimeLines.{AreAnswered, AreClosing, AreOf, AsksPlaced, IsOnlyTimeLine, IsTimeLine, asker, entries_of, history_of}
use Rattle.grub_timeline.proofs.Answering.{IsBy, by_one, by_prefix, by_told, read_line, runqueues_of}
use Rattle.grub_timeline.proofs.OneOrder.{one_order}

history_append : (xs ys : List ToldEntry) → history_of (xs ++ ys) ≡ history_of xs ++ history_of ys
history_append xs ys = grind (arith, common_steps)

entries_append : (xs ys : List ToldEntry) → entries_of (xs ++ ys) ≡ entries_of xs ++ entries_of ys
entries_append xs ys = grind (arith, common_steps)

-- a book gave the entries, and each was answered
pub record IsGiven (s : Machine) (told : List ToldEntry) : Type 0 where
  pub legal : IsLegal s (history_of told)
  pub answered : AreAnswered told

pub given_first : (s : Machine) (later earlier : List ToldEntry) → IsPrefix earlier later → IsGiven s later → IsGiven s earlier
given_first s later earlier starts g = record {
  legal = legal_prefix s (history_of later) (history_of earlier) (history_of starts.0, sym (history_append earlier starts.0) ∙ ap history_of starts.1) g.legal;
  answered = all_left (λ (x : ToldEntry). IsAnswered x.entry.ask x.entry.answer) earlier starts.0 (subst AreAnswered (sym starts.1) g.answered);
}

pub lines_start : (order : List PlacedLine) (before after : List ToldEntry) → FoldsTo AsksPlaced before order after → IsPrefix before after
lines_start [] before after f = ([], append-nil before ∙ f)
lines_start (p ∷ ps) before after f = starts_after after f.0 before (lines_start ps f.0 after f.2) (f.1.more, sym f.1.list)

-- the runqueues of more entries are determined by the entries
same_runqueues : (r : ℕ) (before xs ys : List ToldEntry) → entries_of xs ≡ entries_of ys → AreOf r before xs → AreOf r before ys → xs ≡ ys
same_runqueues r before [] [] is f g = refl
same_runqueues r before [] (y ∷ ys) is f g = absurd (cc)
same_runqueues r before (x ∷ xs) [] is f g = absurd (cc)
same_runqueues r before (x ∷ xs) (y ∷ ys) is f g =
    let entry : x.entry ≡ y.entry = ap (λ (es : List Entry). get_or es 0 x.entry) is in
    let run : x.runqueue ≡ y.runqueue = f.0 ∙ ap (λ (e : Entry). asker r (entries_of before) e.ask) entry ∙ sym g.0 in
    let same : x ≡ y = λ i. record { runqueue = run i; entry = entry i } in
    let rest : xs ≡ ys = same_runqueues r (before ++ x ∷ []) xs ys (ap (drop 1) is) f.1 (subst (λ k. AreOf r (before ++ k ∷ []) ys) (sym same) g.1) in
    λ i. same i ∷ rest i

-- ---- one line
module _ (s : Machine) where
  pub by_line : (p : PlacedLine) (before after : List ToldEntry) → AsksPlaced before p after → IsGiven s after → IsBy s p.runqueue (runqueues_of before) (opening_book s) (entries_of after)
  by_line p before after f g =
      subst (λ xs. IsBy s p.runqueue (runqueues_of before) (opening_book s) (entries_of xs)) (sym f.list)
      (by_told s p.runqueue (runqueues_of before) (opening_book s) (before ++ f.more) (subst AreAnswered f.list g.answered) (subst (λ xs. IsLegal s (history_of xs)) f.list g.legal) (read_line p.runqueue before before f.more f.runqueues))

  placed_alike : (p : PlacedLine) (before j k : List ToldEntry) → AsksPlaced before p j → AsksPlaced before p k → IsGiven s j → IsGiven s k → j ≡ k
  placed_alike p before j k f g a b =
      let P = IsBy s p.runqueue (runqueues_of before) (opening_book s) in
      let same : entries_of j ≡ entries_of k = line_alike p.runqueue P (by_prefix s p.runqueue (runqueues_of before) (opening_book s)) (by_one s p.runqueue (runqueues_of before) (opening_book s)) p.line (entries_of before) (entries_of j) (entries_of k) f.asked g.asked
      (by_line p before j f a) (by_line p before k g b) in
      let both : entries_of before ++ entries_of f.more ≡ entries_of before ++ entries_of g.more
      = sym (ap entries_of f.list ∙ entries_append before f.more) ∙ same ∙ (ap entries_of g.list ∙ entries_append before g.more) in
      f.list ∙ ap (λ l. before ++ l) (same_runqueues p.runqueue before f.more g.more (append_cancel_left (entries_of before) (entries_of f.more) (entries_of g.more) both) f.runqueues g.runqueues) ∙ sym g.list

  order_alike : (order : List PlacedLine) (before j k : List ToldEntry) → FoldsTo AsksPlaced before order j → FoldsTo AsksPlaced before order k → IsGiven s j → IsGiven s k → j ≡ k
  order_alike [] before j k f g a b = sym f ∙ g
  order_alike (p ∷ ps) before j k f g a b =
      let same = placed_alike p before f.0 g.0 f.1 g.1 (given_first s j f.0 (lines_start ps f.0 j f.2) a) (given_first s k g.0 (lines_start ps g.0 k g.2) b) in
      order_alike ps f.0 j k f.2 (subst (λ es. FoldsTo AsksPlaced es ps k) (sym same) g.2) a b

closing_alike : (s : Machine) (h : List Event) (xs ys : List Reading) → AreClosing s h xs → AreClosing s h ys → xs ≡ ys
closing_alike s h xs ys f g =
    let d : Reading = record { running = 0; this = 0 } in
    ext_get_or d xs ys (f.one_each ∙ sym g.one_each)
    (λ r low. f.readings r (get_or xs r d) (slice_get-get_or xs r d low) ∙ sym (g.readings r (get_or ys r d) (slice_get-get_or ys r d (let one = f.one_each in let other = g.one_each in omega (arith, one, other, low)))))

pub only_one : (plan : PlanView) (told : List ToldEntry) (closing : List Reading) → IsTimeLine plan told closing → IsOnlyTimeLine plan told closing
only_one plan told closing f = record { no_other = λ others last g. alike others last g }
  where
    alike : (others : List ToldEntry) (last : List Reading) → IsTimeLine plan others last → (others ≡ told) × (last ≡ closing)
    alike others last g =
        let order : g.order ≡ f.order = one_order plan.scripts g.order f.order g.sorted f.sorted in
        let same : others ≡ told = order_alike plan.setup f.order [] others told (subst (λ o. FoldsTo AsksPlaced [] o others) order g.asked) f.asked (record { legal = g.legal; answered = g.answered }) (record { legal = f.legal; answered = f.answered }) in
        (same, closing_alike plan.setup (history_of told) last closing (subst (λ t. AreClosing plan.setup (history_of t) last) same g.closes) f.closes)
