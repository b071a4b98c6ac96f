-- What of the history and the marks stands behind an ask that was given up.
use Rattle.std.specs.Prelude.{◌≡◌, ◌≢◌, ◌⊎◌, ℕ, IsTrue, List}
use Rattle.std.specs.List.{All, Any}
use Rattle.grub_book.specs.Machine.{Machine}
use Rattle.grub_book.specs.Step.{is_under_claim}
use Rattle.grub_book.specs.declared.event.Event.{Event}
use Rattle.grub_book.specs.declared.event.Event.TheVariants as events
use Rattle.grub_table.specs.declared.view.Mark.{Mark}
use Rattle.grub_table.specs.declared.view.Mark.TheVariants.{Taken, Given}
use Rattle.grub_plan.specs.declared.entry.Ask.{Ask}
use Rattle.grub_plan.specs.declared.entry.Ask.TheVariants.{Call, Read}
use Rattle.grub_plan.specs.declared.entry.Answer.{Answer}
use Rattle.grub_plan.specs.declared.entry.Answer.TheVariants.{Replied, Seen, Busy, Lost}
use Rattle.grub_plan.specs.declared.entry.Entry.{Entry}
use Rattle.grub_workers.specs.Evidence.{IsOvertaken}

-- another pass than i took task t
abbrev pub TakesElse : ℕ → ℕ → Mark → Type 0
TakesElse i t (Taken j u) = (u ≡ t) × (j ≢ i)
TakesElse i t (Given j u) = ⊥

-- another pass than i made a call on task t, and held it for that
abbrev pub CallsElse : ℕ → ℕ → Event → Type 0
CallsElse i t (events.Call j u op reply) = (u ≡ t) × (j ≢ i) × IsTrue (is_under_claim reply)
CallsElse i t (events.Look j r reading) = ⊥

-- the history or the marks show that another pass than i held task t
abbrev pub ShowsHolder : ℕ → ℕ → List Event → List Mark → Type 0
ShowsHolder i t history marks = Any (CallsElse i t) history ⊎ Any (TakesElse i t) marks

-- what stands behind an answer by which an ask was given up
abbrev pub IsBacked : Machine → ℕ → ℕ → List Event → List Mark → Ask → Answer → Type 0
IsBacked s tries i history marks (Call t op) Busy = ShowsHolder i t history marks
IsBacked s tries i history marks (Call t op) Lost = IsOvertaken s tries i t op history
IsBacked s tries i history marks (Call t op) (Replied reply) = Unit {0}
IsBacked s tries i history marks (Call t op) (Seen reading) = ⊥
IsBacked s tries i history marks Read (Seen reading) = Unit {0}
IsBacked s tries i history marks Read (Replied reply) = ⊥
IsBacked s tries i history marks Read Busy = ⊥
IsBacked s tries i history marks Read Lost = ⊥

abbrev pub AreBacked : Machine → ℕ → ℕ → List Event → List Mark → List Entry → Type 0
AreBacked s tries i history marks entries = All (λ (e : Entry). IsBacked s tries i history marks e.ask e.answer) entries
