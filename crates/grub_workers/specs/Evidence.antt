-- What one pass knows of the others where an ask was given up.
use Rattle.std.specs.Prelude.{◌≡◌, ℕ, true, None, List}
use mathlib.Core.List.{IsPrefix}
use Rattle.grub_book.specs.Machine.{Machine}
use Rattle.grub_book.specs.Sums.{record_at}
use Rattle.grub_book.specs.Step.{changes_sum, refused, runqueue_of}
use Rattle.grub_book.specs.History.{HasChanged, book_of, calls_of}
use Rattle.grub_book.specs.declared.op.Op.{Op}
use Rattle.grub_book.specs.declared.place.Record.{Record}
use Rattle.grub_book.specs.declared.event.Event.{Event}

-- The op of pass i was to change a sum, and others were first: at some point of the history the task's record x let it change a sum of its runqueue,
-- and from an earlier point on, with no event of pass i between, the reading of that runqueue became another at least once for each try.
pub record IsOvertaken (s : Machine) (tries i t : ℕ) (op : Op) (history : List Event) : Type 0 where
  pub point : List Event
  pub in_history : IsPrefix point history
  pub x : Record
  pub found : record_at (book_of s point) t ≡ x
  pub unrefused : refused x.place x.count op ≡ None
  pub would_change : changes_sum x op ≡ true
  pub earlier : List Event
  pub none_own : calls_of i point ≡ calls_of i earlier
  pub changes : HasChanged s (runqueue_of x.place op) earlier point tries
