-- Histories of a table, and what its words say after one.
use Rattle.std.specs.Prelude.{◌≡◌, ℕ, ◌<◌, List, [], ◌∷◌, ◌++◌}
use Rattle.std.specs.List.{All}
use Rattle.grub_book.specs.Sums.{record_at, reading_of}
use Rattle.grub_book.specs.History.{IsLegal, book_of, pass_of}
use Rattle.grub_book.specs.declared.event.Event.{Event}
use Rattle.grub_book.specs.declared.event.Reading.{Reading}
use Rattle.grub_book.specs.declared.place.Record.{Record}
use Rattle.grub_table.specs.declared.view.Terms.{Terms}

-- a history of the table: a one-thread book could have made it, and only passes of the table are in it
pub record IsHistory (T : Terms) (h : List Event) : Type 0 where
  pub legal : IsLegal T.setup h
  pub numbers : All (λ e. pass_of e < T.passes) h

-- the record of a task, and the reading of a runqueue, in the book after a history
abbrev pub record_in : Terms → List Event → ℕ → Record
record_in T h t = record_at (book_of T.setup h) t

abbrev pub reading_in : Terms → List Event → ℕ → Reading
reading_in T h r = reading_of (book_of T.setup h) r

-- the history ends with this event, and just before it the task's record was x
abbrev pub WasBefore : Terms → ℕ → Record → Event → List Event → Type 0
WasBefore T t x e h = (before : List Event) × (h ≡ before ++ e ∷ []) × (record_in T before t ≡ x)

-- the history ends with this event
abbrev pub EndsWith : List Event → Event → Type 0
EndsWith h e = (before : List Event) × (h ≡ before ++ e ∷ [])
