-- The steps of entries that are played some at a time.
use Rattle.std.proofs.Common.{◌≡◌, ℕ, ◌<◌, List, [], ◌∷◌, ◌++◌, ◌∙◌, length, refl, ap, subst, append_assoc}
use Rattle.std.proofs.lemmas.Grind.{flat_map-append}
use Rattle.std.proofs.lemmas.List.Elements.{All-append, All-tail}
use Rattle.std.specs.List.{All, flat_map}
use Rattle.grub_book.specs.Machine.{Machine}
use Rattle.grub_book.specs.Sums.{Records, opening_book}
use Rattle.grub_book.specs.History.{IsLegal}
use Rattle.grub_plan.specs.Plans.{PlanView, IsAskOf}
use Rattle.grub_timeline.specs.TimeLines.{AreAnswered, AreWithin, history_of}
use Rattle.grub_timeline.specs.declared.told.ToldEntry.{ToldEntry}
use Rattle.grub_timeline.specs.Fitting.{AreToldIn, IsToldIn}
use Rattle.grub_timeline.specs.Past.{book_past}
use Rattle.grub_timeline.specs.Replay.{book_after, step_of, steps_from, steps_of}
use Rattle.grub_views.specs.Rows.{step_row}
use Rattle.grub_timeline.proofs.Viewing.{legal_within}

pub steps_more : (s : Machine) (book : Records) (xs ys : List ToldEntry) → steps_from s book (xs ++ ys) ≡ steps_from s book xs ++ steps_from s (book_past s book xs) ys
steps_more s book [] ys = refl
steps_more s book (x ∷ xs) ys = ap (λ l. step_of s book x ∷ l) (steps_more s (book_after s book x.entry.ask) xs ys)

pub past_more : (s : Machine) (book : Records) (xs ys : List ToldEntry) → book_past s book (xs ++ ys) ≡ book_past s (book_past s book xs) ys
past_more s book [] ys = refl
past_more s book (x ∷ xs) ys = past_more s (book_after s book x.entry.ask) xs ys

-- the rows of some entries, and those of the entries behind them
pub rows_then : (names : List (List ℕ)) (s : Machine) (book : Records) (xs ys : List ToldEntry)
    → flat_map (step_row names) (steps_from s book (xs ++ ys)) ≡ flat_map (step_row names) (steps_from s book xs) ++ flat_map (step_row names) (steps_from s (book_past s book xs) ys)
rows_then names s book xs ys =
    ap (flat_map (step_row names)) (steps_more s book xs ys) ∙ flat_map-append (step_row names) (steps_from s book xs) (steps_from s (book_past s book xs) ys)

-- the rows of the entries so far, and those of the next
pub rows_more : (names : List (List ℕ)) (s : Machine) (was chunk : List ToldEntry)
    → flat_map (step_row names) (steps_of s (was ++ chunk)) ≡ flat_map (step_row names) (steps_of s was) ++ flat_map (step_row names) (steps_from s (book_past s (opening_book s) was) chunk)
unfolding steps_of
rows_more names s was chunk = rows_then names s (opening_book s) was chunk

behind : (P : ToldEntry → Type 0) (xs ys : List ToldEntry) → All P (xs ++ ys) → All P ys
behind P [] ys all = all
behind P (x ∷ xs) ys all = behind P xs ys (All-tail P x (xs ++ ys) all)

-- what is within, and what is within behind it
pub within_more : (s : Machine) (was chunk : List ToldEntry) → AreWithin s was → AreWithin s chunk → AreWithin s (was ++ chunk)
within_more s was chunk before after = All-append (λ (x : ToldEntry). (x.runqueue < length s.queues) × IsAskOf (length s.tasks) x.entry.ask) was chunk before after

-- the latest entries may be viewed
pub chunk_viewable : (plan then : PlanView) (was chunk told : List ToldEntry) → then ≡ plan → told ≡ was ++ chunk → IsLegal then.setup (history_of told) → AreAnswered told
    → AreWithin plan.setup was → AreWithin then.setup chunk → AreToldIn plan.setup chunk
chunk_viewable plan then was chunk told is list legal answered before within =
    let s = plan.setup in
    let chunk_within : AreWithin s chunk = subst (λ (p : PlanView). AreWithin p.setup chunk) is within in
    let all_legal : IsLegal s (history_of (was ++ chunk)) = subst (λ (xs : List ToldEntry). IsLegal s (history_of xs)) list (subst (λ (p : PlanView). IsLegal p.setup (history_of told)) is legal) in
    let all_answered : AreAnswered (was ++ chunk) = subst (λ (xs : List ToldEntry). AreAnswered xs) list answered in
    behind (IsToldIn s) was chunk (legal_within s (opening_book s) (was ++ chunk) all_legal all_answered (within_more s was chunk before chunk_within))

-- what was played, and then the rest of the time line
pub told_out : (before latest next more then all : List ToldEntry) → then ≡ (before ++ latest) ++ next → all ≡ then ++ more → all ≡ before ++ (latest ++ (next ++ more))
told_out before latest next more then all was out =
    out ∙ ap (λ (l : List ToldEntry). l ++ more) was ∙ append_assoc (before ++ latest) next more ∙ append_assoc before latest (next ++ more)
