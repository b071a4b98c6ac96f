-- A recorded history in plain numbers: when it is the book's, and the book after it.
use Rattle.std.specs.Prelude.{◌≡◌, ◌<◌, ◌⊎◌, ◌==◌, true, List, [], ◌∷◌, length, fold, ⊤, if◌then◌else◌}
use Rattle.grub_book.specs.Machine.{Machine}
use Rattle.grub_book.specs.Sums.{Records, reading_of}
use Rattle.grub_book.specs.declared.event.Reading.{Reading}
use Rattle.library_book.specs.Answer.{answer, is_op}
use Rattle.library_book.specs.Rebase.{rebase_answer}
use Rattle.library_book.specs.declared.checker.TheConstants.{CALL, READING, REBASE}
use Rattle.library_book.specs.declared.asked.NdEvent.{NdEvent}

abbrev pub reading_told : NdEvent → Reading
reading_told x = record { running = x.running_bw; this = x.this_bw }

-- a call of a task that is there, of an op that may be asked, which the book answers so
pub record IsAnswered (s : Machine) (book : Records) (x : NdEvent) : Type 0 where
  pub call : x.kind ≡ CALL
  pub task : x.number < length book
  pub op : is_op (length s.queues) x.op ≡ true
  pub reply : (answer s book x.number x.op).1 ≡ x.reply

-- a reading of a runqueue that is there, which the book gives so
pub record IsRead (s : Machine) (book : Records) (x : NdEvent) : Type 0 where
  pub reading : x.kind ≡ READING
  pub queue : x.number < length s.queues
  pub sums : reading_of book x.number ≡ reading_told x

-- a rebase by its number, which the book answers so
pub record IsRebase (book : Records) (x : NdEvent) : Type 0 where
  pub rebase : x.kind ≡ REBASE
  pub reply : (rebase_answer x.number book).1 ≡ x.reply

-- an event that is in range, and the book's
abbrev pub IsOfBook : Machine → Records → NdEvent → Type 0
IsOfBook s book x = IsAnswered s book x ⊎ IsRead s book x ⊎ IsRebase book x

-- the book after an event
abbrev pub book_after : Machine → Records → NdEvent → Records
book_after s book x =
    if x.kind == CALL then (answer s book x.number x.op).0
    else (if x.kind == REBASE then (rebase_answer x.number book).0
    else book)

-- from these records on, each event is of the book after the events before it
abbrev pub IsRecordedFrom : Machine → Records → List NdEvent → Type 0
IsRecordedFrom s book [] = ⊤
IsRecordedFrom s book (x ∷ xs) = IsOfBook s book x × IsRecordedFrom s (book_after s book x) xs

-- the book after a recorded history
abbrev pub book_recorded : Machine → Records → List NdEvent → Records
book_recorded s book xs = fold (book_after s) book xs
