-- What is counted fits, with one step more.
use Rattle.std.proofs.Common.{◌≡◌, ℕ, ◌+◌, ◌<◌, List, length, get_or, set, take, drop, ap, ◌∙◌, sym, subst, arith, IfSome, All}
use Rattle.std.proofs.lemmas.List.{drop-set-lt, drop_more, take_more_set}
use Rattle.std.proofs.lemmas.List.Elements.{All-get_or, All-push, All-set, All-weaker}
use Rattle.grub_book.specs.Machine.{Machine}
use Rattle.grub_book.specs.Sums.{Records}
use Rattle.grub_plan.specs.declared.entry.Ask.{Ask}
use Rattle.grub_plan.specs.declared.entry.Ask.TheVariants.{Call, Read}
use Rattle.grub_timeline.specs.declared.told.ToldEntry.{ToldEntry}
use Rattle.grub_timeline.specs.Replay.{book_after, change_of, step_of}
use Rattle.grub_timeline.specs.Fitting.{IsAskIn, IsToldIn}
use Rattle.grub_timeline.specs.declared.book_steps.Step.{Step}
use Rattle.grub_views.specs.inside.Within.{IsWithin}
use Rattle.grub_views.specs.declared.tally.Tally.{Tally}

one_wider : (n : ℕ) (y : Tally) → IsWithin n y → IsWithin (n + 1) y
one_wider n y w = record {
  executed = let h = w.executed in omega arith;
  charged = let h = w.charged in omega arith;
  recharges = let h = w.recharges in omega arith;
  joins = let h = w.joins in omega arith;
  wakes = let h = w.wakes in omega arith;
  kept = let h = w.kept in omega arith;
  moves = let h = w.moves in omega arith;
  waits = let h = w.waits in omega arith;
  sleeps = let h = w.sleeps in omega arith;
  retired = let h = w.retired in omega arith;
  late = let h = w.late in omega arith;
  refused = let h = w.refused in omega arith;
}

pub tallies_wider : (n : ℕ) (ys : List Tally) → All (IsWithin n) ys → All (IsWithin (n + 1)) ys
tallies_wider n ys all = All-weaker (IsWithin n) (IsWithin (n + 1)) (one_wider n) ys all

pub tallies_within : (n t : ℕ) (ys : List Tally) (y d : Tally) → t < length ys → (IsWithin n (get_or ys t d) → IsWithin (n + 1) y) → All (IsWithin n) ys → All (IsWithin (n + 1)) (set ys t y)
tallies_within n t ys y d below step all = All-set (IsWithin (n + 1)) ys t y (step (All-get_or (IsWithin n) ys t d below all)) (tallies_wider n ys all)

-- a step's task is there
change_there : (s : Machine) (book then : Records) (n : ℕ) (ask : Ask) → n ≡ length s.tasks → IsAskIn s ask → IfSome (change_of book then ask) (λ change. change.task < n)
change_there s book then n (Call t op) is within = subst (λ m. t < m) (sym is) within.0
change_there s book then n Read is within = tt

pub task_there : (s : Machine) (book : Records) (x : ToldEntry) (made : Step) (n : ℕ) → IsToldIn s x → made ≡ step_of s book x → n ≡ length s.tasks → IfSome made.change (λ change. change.task < n)
task_there s book x made n within is long = rw is (change_there s book (book_after s book x.entry.ask) n x.entry.ask long within.ask)

-- what is left of a list of which one more is written
pub left_more : {X : Type 0} (xs ys : List X) (i : ℕ) (y d : X) → i < length xs → length ys ≡ length xs → drop i ys ≡ drop i xs → drop (i + 1) (set ys i y) ≡ drop (i + 1) xs
left_more {X = X} xs ys i y d below long is =
    let under : i < length ys = subst (λ n. i < n) (sym long) below in
    drop-set-lt (i + 1) ys i y (omega arith) ∙ ap (drop 1) (sym (drop_more ys i d under) ∙ is ∙ drop_more xs i d below)

-- the next one, which is as it was
pub next_is : {X : Type 0} (xs ys : List X) (i : ℕ) (d : X) → i < length xs → length ys ≡ length xs → drop i ys ≡ drop i xs → get_or ys i d ≡ get_or xs i d
next_is {X = X} xs ys i d below long is =
    let under : i < length ys = subst (λ n. i < n) (sym long) below in
    ap (λ (l : List X). get_or l 0 d) (sym (drop_more ys i d under) ∙ is ∙ drop_more xs i d below)

-- those that are written fit, where each that is written next does
pub over_within : {X : Type 0} (P Q : X → Type 0) (xs ys : List X) (i : ℕ) (d y : X) → i < length xs → length ys ≡ length xs → drop i ys ≡ drop i xs
    → (P (get_or ys i d) → Q y) → (All P xs → All Q (take i ys)) → All P xs → All Q (take (i + 1) (set ys i y))
over_within {X = X} P Q xs ys i d y below long is step so_far all =
    let under : i < length ys = subst (λ n. i < n) (sym long) below in
    subst (λ (l : List X). All Q l) (sym (take_more_set ys i y under))
    (All-push Q (take i ys) y (so_far all) (step (subst P (sym (next_is xs ys i d below long is)) (All-get_or P xs i d below all))))
