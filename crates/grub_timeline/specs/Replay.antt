-- What a book makes of the entries of a time line, one after the other.
use Rattle.std.specs.Prelude.{ℕ, List, [], ◌∷◌, Option, Some, None}
use Rattle.grub_book.specs.Machine.{Machine}
use Rattle.grub_book.specs.Sums.{Records, record_at, opening_book, reading_of}
use Rattle.grub_book.specs.Step.{step}
use Rattle.grub_book.specs.declared.place.Place.{Place}
use Rattle.grub_book.specs.declared.place.Place.TheVariants.{Away, Gone, On}
use Rattle.grub_plan.specs.declared.entry.Ask.{Ask}
use Rattle.grub_plan.specs.declared.entry.Ask.TheVariants.{Call, Read}
use Rattle.grub_timeline.specs.declared.told.ToldEntry.{ToldEntry}
use Rattle.grub_timeline.specs.declared.book_steps.Change.{Change}
use Rattle.grub_timeline.specs.declared.book_steps.Step.{Step}

-- the book after an ask
abbrev pub book_after : Machine → Records → Ask → Records
book_after s book (Call t op) = (step s book t op).0
book_after s book Read = book

-- the runqueue of a place, or this one where there is none
abbrev pub queue_or : Place → ℕ → ℕ
queue_or (On s state) r = s
queue_or Away r = r
queue_or Gone r = r

-- the runqueue on which the task of an ask stands then, or else stood before, or else the asker's
abbrev pub queue_seen : Records → Records → ℕ → Ask → ℕ
queue_seen before then r (Call t op) = queue_or (record_at then t).place (queue_or (record_at before t).place r)
queue_seen before then r Read = r

abbrev pub change_of : Records → Records → Ask → Option Change
change_of before then (Call t op) = Some (record { task = t; server = (record_at before t).server; place = (record_at then t).place })
change_of before then Read = None

-- an entry, and what it made of a book
abbrev pub step_of : Machine → Records → ToldEntry → Step
step_of s book x =
    let then = book_after s book x.entry.ask in
    let queue = queue_seen book then x.runqueue x.entry.ask in
    record { told = x; change = change_of book then x.entry.ask; queue = queue; reading = reading_of then queue }

-- the steps of these entries, from this book on
abbrev pub steps_from : Machine → Records → List ToldEntry → List Step
steps_from s book [] = []
steps_from s book (x ∷ told) = step_of s book x ∷ steps_from s (book_after s book x.entry.ask) told

unfoldable pub steps_of : Machine → List ToldEntry → List Step
steps_of s told = steps_from s (opening_book s) told
