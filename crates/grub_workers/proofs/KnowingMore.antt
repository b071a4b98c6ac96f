-- What a pass knows goes on.
use Rattle.std.proofs.Common.{ℕ, List, subst, ⊎_elim, inl, inr}
use Rattle.std.specs.List.{Any}
use Rattle.std.proofs.lemmas.List.Elements.{All-weaker}
use mathlib.Core.List.{IsPrefix}
use Rattle.grub_book.specs.Machine.{Machine}
use Rattle.grub_book.specs.declared.op.Op.{Op}
use Rattle.grub_book.specs.declared.event.Event.{Event}
use Rattle.grub_book.proofs.Histories.{starts_after}
use Rattle.grub_table.specs.declared.view.Mark.{Mark}
use Rattle.grub_plan.specs.declared.entry.Ask.{Ask}
use Rattle.grub_plan.specs.declared.entry.Ask.TheVariants.{Call, Read}
use Rattle.grub_plan.specs.declared.entry.Answer.{Answer}
use Rattle.grub_plan.specs.declared.entry.Answer.TheVariants.{Replied, Seen, Busy, Lost}
use Rattle.grub_plan.specs.declared.entry.Entry.{Entry}
use Rattle.grub_workers.specs.Evidence.{IsOvertaken}
use Rattle.grub_workers.specs.inside.Evidence.{AreBacked, CallsElse, IsBacked, ShowsHolder, TakesElse}
use Rattle.grub_workers.proofs.Elements.{Somewhere, any_of, somewhere_of, somewhere_left}

any_later : {X : Type 0} (P : X → Type 0) (xs ys : List X) → IsPrefix xs ys → Any P xs → Any P ys
any_later P xs ys starts a = any_of P ys (subst (λ l. Somewhere P l) starts.1 (somewhere_left P xs starts.0 (somewhere_of P xs a)))

shows_later : (i t : ℕ) (h h' : List Event) (m m' : List Mark) → IsPrefix h h' → IsPrefix m m' → ShowsHolder i t h m → ShowsHolder i t h' m'
shows_later i t h h' m m' a b = ⊎_elim (λ k. inl (any_later (CallsElse i t) h h' a k)) (λ k. inr (any_later (TakesElse i t) m m' b k))

pub overtaken_later : (s : Machine) (n i t : ℕ) (op : Op) (h h' : List Event) → IsPrefix h h' → IsOvertaken s n i t op h → IsOvertaken s n i t op h'
overtaken_later s n i t op h h' a o = record {
  point = o.point;
  in_history = starts_after h' h o.point a o.in_history;
  x = o.x;
  found = o.found;
  unrefused = o.unrefused;
  would_change = o.would_change;
  earlier = o.earlier;
  none_own = o.none_own;
  changes = o.changes;
}

-- what stands behind an answer still does when more is known
pub backed_later : (s : Machine) (n i : ℕ) (h h' : List Event) (m m' : List Mark) (ask : Ask) (answer : Answer) → IsPrefix h h' → IsPrefix m m' → IsBacked s n i h m ask answer → IsBacked s n i h' m' ask answer
backed_later s n i h h' m m' (Call t op) Busy a b k = shows_later i t h h' m m' a b k
backed_later s n i h h' m m' (Call t op) Lost a b k = overtaken_later s n i t op h h' a k
backed_later s n i h h' m m' (Call t op) (Replied reply) a b k = tt
backed_later s n i h h' m m' (Call t op) (Seen reading) a b k = absurd k
backed_later s n i h h' m m' Read (Seen reading) a b k = tt
backed_later s n i h h' m m' Read (Replied reply) a b k = absurd k
backed_later s n i h h' m m' Read Busy a b k = absurd k
backed_later s n i h h' m m' Read Lost a b k = absurd k

pub all_backed_later : (s : Machine) (n i : ℕ) (h h' : List Event) (m m' : List Mark) (es : List Entry) → IsPrefix h h' → IsPrefix m m' → AreBacked s n i h m es → AreBacked s n i h' m' es
all_backed_later s n i h h' m m' es a b all =
    All-weaker (λ (e : Entry). IsBacked s n i h m e.ask e.answer) (λ (e : Entry). IsBacked s n i h' m' e.ask e.answer) (λ e k. backed_later s n i h h' m m' e.ask e.answer a b k) es all
