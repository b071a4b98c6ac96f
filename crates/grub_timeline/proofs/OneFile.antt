-- The time line of one file.
use Rattle.std.proofs.Common.{◌≡◌, ℕ, ◌<◌, ◌≤◌, ◌==◌, Bool, true, false, List, [], ◌∷◌, ◌++◌, length, refl, sym, ap, ◌∙◌, subst, arith}
use Rattle.std.specs.Prelude.{map}
use Rattle.std.specs.List.{All, AllByRecursion, FoldsTo}
use Rattle.std.proofs.lemmas.List.{get_or_past}
use Rattle.std.proofs.lemmas.List.Elements.{All-cons, All-head, All-nil, All-tail, All-weaker}
use Rattle.grub_book.specs.Machine.{Machine}
use Rattle.grub_book.specs.Sums.{opening_book}
use Rattle.grub_book.specs.History.{IsLegal}
use Rattle.grub_book.specs.declared.event.Reading.{Reading}
use Rattle.grub_plan.specs.declared.entry.Entry.{Entry}
use Rattle.grub_plan.specs.Plans.{PlanView, script_at, IsAskOf}
use Rattle.grub_plan.specs.Answers.{IsAnswered, event_told, events_told}
use Rattle.grub_plan.specs.Asked.{Asked, AsksLine}
use Rattle.grub_plan.proofs.Alike.{script_alike}
use Rattle.grub_timeline.specs.declared.order.PlacedLine.{PlacedLine}
use Rattle.grub_timeline.specs.declared.told.ToldEntry.{ToldEntry}
use Rattle.grub_timeline.specs.Order.{lines_of}
use Rattle.grub_timeline.specs.TimeLines.{AreAnswered, AreWithin, AsksPlaced, IsOneRun, IsTimeLine, entries_of, history_of}
use Rattle.grub_timeline.proofs.Answering.{AreReadFor, IsBy, by_one, by_prefix, by_told}
use Rattle.grub_timeline.proofs.OneOrder.{lines_cons, lines_with, own_first}

-- where runqueue 0 alone has lines, its lines are those of all
abbrev AreFirst : List PlacedLine → Type 0
AreFirst order = AllByRecursion (λ (p : PlacedLine). p.runqueue ≡ 0) order

all_lines : (order : List PlacedLine) → AreFirst order → lines_of 0 order ≡ map (λ (p : PlacedLine). p.line) order
all_lines [] all = refl
all_lines (p ∷ ps) all = ap (λ r. lines_of r (p ∷ ps)) (sym all.0) ∙ own_first p ps ∙ ap (λ r. p.line ∷ lines_of r ps) all.0 ∙ ap (λ ls. p.line ∷ ls) (all_lines ps all.1)

script_asked : (order : List PlacedLine) (before after : List ToldEntry) → AreFirst order → FoldsTo AsksPlaced before order after → FoldsTo (AsksLine 0) (entries_of before) (map (λ (p : PlacedLine). p.line) order) (entries_of after)
script_asked [] before after all f = ap entries_of f
script_asked (p ∷ ps) before after all f = (entries_of f.0, subst (λ r. AsksLine r (entries_of before) p.line (entries_of f.0)) all.0 f.1.asked, script_asked ps f.0 after all.1 f.2)

history_first : (told : List ToldEntry) → All (λ (x : ToldEntry). x.runqueue ≡ 0) told → history_of told ≡ events_told 0 (entries_of told)
history_first [] all = refl
history_first (x ∷ xs) all =
    let here : x.runqueue ≡ 0 = All-head (λ (k : ToldEntry). k.runqueue ≡ 0) x xs all in
    ap (λ r. event_told r x.entry.ask x.entry.answer ++ history_of xs) here ∙ ap (λ h. event_told 0 x.entry.ask x.entry.answer ++ h) (history_first xs (All-tail (λ (k : ToldEntry). k.runqueue ≡ 0) x xs all))

-- entries of runqueue 0
abbrev at_first : List Entry → List ToldEntry
at_first es = map (λ (e : Entry). record { runqueue = 0; entry = e }) es

entries_at : (es : List Entry) → entries_of (at_first es) ≡ es
entries_at [] = refl
entries_at (e ∷ es) = ap (λ l. e ∷ l) (entries_at es)

history_at : (es : List Entry) → history_of (at_first es) ≡ events_told 0 es
history_at [] = refl
history_at (e ∷ es) = ap (λ h. event_told 0 e.ask e.answer ++ h) (history_at es)

answered_at : (es : List Entry) → All (λ (e : Entry). IsAnswered e.ask e.answer) es → AreAnswered (at_first es)
answered_at [] all = All-nil (λ (x : ToldEntry). IsAnswered x.entry.ask x.entry.answer)
answered_at (e ∷ es) all =
    All-cons (λ (x : ToldEntry). IsAnswered x.entry.ask x.entry.answer) (record { runqueue = 0; entry = e }) (at_first es) (All-head (λ (k : Entry). IsAnswered k.ask k.answer) e es all)
    (answered_at es (All-tail (λ (k : Entry). IsAnswered k.ask k.answer) e es all))

answered_of : (told : List ToldEntry) → AreAnswered told → All (λ (e : Entry). IsAnswered e.ask e.answer) (entries_of told)
answered_of [] all = All-nil (λ (e : Entry). IsAnswered e.ask e.answer)
answered_of (x ∷ xs) all =
    All-cons (λ (e : Entry). IsAnswered e.ask e.answer) x.entry (entries_of xs) (All-head (λ (k : ToldEntry). IsAnswered k.entry.ask k.entry.answer) x xs all)
    (answered_of xs (All-tail (λ (k : ToldEntry). IsAnswered k.entry.ask k.entry.answer) x xs all))

read_at : (es : List Entry) → AreReadFor 0 [] (at_first es)
read_at [] = tt
read_at (e ∷ es) = (λ is. refl, read_at es)

by_entries : (s : Machine) (es : List Entry) → All (λ (e : Entry). IsAnswered e.ask e.answer) es → IsLegal s (events_told 0 es) → IsBy s 0 [] (opening_book s) es
by_entries s es answered legal =
    subst (IsBy s 0 [] (opening_book s)) (entries_at es) (by_told s 0 [] (opening_book s) (at_first es) (answered_at es answered) (subst (IsLegal s) (sym (history_at es)) legal) (read_at es))

-- no runqueue but the first has lines
first_alone : (order : List PlacedLine) → ((r : ℕ) → 1 ≤ r → lines_of r order ≡ []) → AreFirst order
first_alone [] none = tt
first_alone (p ∷ ps) none =
    let some : 1 ≤ p.runqueue → ⊥ = λ some. let bad : p.line ∷ lines_of p.runqueue ps ≡ [] = sym (own_first p ps) ∙ none p.runqueue some in absurd (cc) in
    let here : p.runqueue ≡ 0 = omega (arith, some) in
    (here, first_alone ps (λ r some. rest r (p.runqueue == r) (sym (lines_cons r p ps) ∙ none r some)))
  where
    rest : (r : ℕ) (b : Bool) → lines_with b p (lines_of r ps) ≡ [] → lines_of r ps ≡ []
    rest r true is = absurd (cc)
    rest r false is = is

pub one_run : (plan : PlanView) (told : List ToldEntry) (closing : List Reading) → length plan.setup.queues ≡ 1 → length plan.scripts ≡ 1 → IsTimeLine plan told closing → AreWithin plan.setup told → IsOneRun plan.setup (script_at plan.scripts 0) told
one_run plan told closing queue file f within =
    let first : AreFirst f.order = first_alone f.order (λ r some. f.sorted.lines r ∙ get_or_past plan.scripts r [] (omega (arith, file, some))) in
    let script : map (λ (p : PlacedLine). p.line) f.order ≡ script_at plan.scripts 0 = sym (all_lines f.order first) ∙ f.sorted.lines 0 in
    let asked : Asked 0 (script_at plan.scripts 0) (entries_of told) = subst (λ lines. Asked 0 lines (entries_of told)) script (script_asked f.order [] told first f.asked) in
    let history : history_of told ≡ events_told 0 (entries_of told) = history_first told (All-weaker (λ (x : ToldEntry). (x.runqueue < length plan.setup.queues) × IsAskOf (length plan.setup.tasks) x.entry.ask) (λ (x : ToldEntry). x.runqueue ≡ 0) (λ x h. let low = h.0 in omega (arith, low, queue)) told within) in
    record {
      asked = asked;
      history = history;
      only = λ es other answered legal.
          script_alike 0 (IsBy plan.setup 0 [] (opening_book plan.setup)) (by_prefix plan.setup 0 [] (opening_book plan.setup)) (by_one plan.setup 0 [] (opening_book plan.setup)) (script_at plan.scripts 0) [] es (entries_of told) other asked
          (by_entries plan.setup es answered legal) (by_entries plan.setup (entries_of told) (answered_of told f.answered) (subst (IsLegal plan.setup) history f.legal));
    }
