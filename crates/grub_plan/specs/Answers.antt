-- Which answers an ask may have, and the events that entries tell of.
use Rattle.std.specs.Prelude.{ℕ, List, [], ◌∷◌, length, ⊤}
use Rattle.std.specs.List.{All, flat_map}
use Rattle.grub_book.specs.declared.event.Event.{Event}
use Rattle.grub_book.specs.declared.event.Event.TheVariants as events
use Rattle.grub_book.specs.Machine.{Machine}
use Rattle.grub_plan.specs.declared.entry.Ask.{Ask}
use Rattle.grub_plan.specs.declared.entry.Ask.TheVariants.{Call, Read}
use Rattle.grub_plan.specs.declared.entry.Answer.{Answer}
use Rattle.grub_plan.specs.declared.entry.Answer.TheVariants.{Replied, Seen}
use Rattle.grub_plan.specs.declared.entry.Entry.{Entry}
use Rattle.grub_plan.specs.Plans.{IsAskOf}

-- the event of an ask for runqueue i, which is the one that is read: none where the ask was given up
abbrev pub event_told : ℕ → Ask → Answer → List Event
event_told i (Call t op) (Replied reply) = events.Call i t op reply ∷ []
event_told i Read (Seen reading) = events.Look i i reading ∷ []
event_told i ask answer = []

-- the events of the entries that were answered Replied or Seen, in order
abbrev pub events_told : ℕ → List Entry → List Event
events_told i entries = flat_map (λ e. event_told i e.ask e.answer) entries

-- the call got a reply, or the reading was seen
abbrev pub IsAnswered : Ask → Answer → Type 0
IsAnswered (Call t op) (Replied reply) = ⊤
IsAnswered Read (Seen reading) = ⊤
IsAnswered ask answer = ⊥

-- each call is on a task that is there
abbrev pub AreAsksOf : Machine → List Entry → Type 0
AreAsksOf s entries = All (λ (e : Entry). IsAskOf (length s.tasks) e.ask) entries
