-- A new origin of time: moments are counted from a later one on, and tickets begin anew.
use Rattle.std.specs.Prelude.{ℕ, ◌-◌, nat_lt, Bool, true, false, map, Option, Some, None, if◌then◌else◌}
use Rattle.std.specs.List.{position_from}
use Rattle.grub_book.specs.Sums.{Records}
use Rattle.grub_book.specs.Step.{lag_moment}
use Rattle.grub_book.specs.declared.place.State.TheVariants.{Contending, NonContending}
use Rattle.grub_book.specs.declared.place.Place.{Place}
use Rattle.grub_book.specs.declared.place.Place.TheVariants.{On}
use Rattle.grub_book.specs.declared.place.Record.{Record}

-- the moment of a task that the origin may not pass: its deadline where it contends, its 0-lag time where it waits for it
abbrev pub bound_at : Place → Record → Option ℕ
bound_at (On r Contending) x = Some x.server.d
bound_at (On r NonContending) x = Some (lag_moment x)
bound_at place x = None

abbrev pub bound_of : Record → Option ℕ
bound_of x = bound_at x.place x

abbrev pub is_before : Option ℕ → ℕ → Bool
is_before None by = false
is_before (Some m) by = nat_lt m by

-- the task does not let the origin move so far
abbrev pub holds_back : ℕ → Record → Bool
holds_back by x = is_before (bound_of x) by

-- the first task that does not
abbrev pub first_held : ℕ → Records → Option ℕ
first_held by book = position_from (holds_back by) 0 book

abbrev pub waits : Place → Bool
waits (On r NonContending) = true
waits place = false

-- the count that is forgotten: all of it, but where the task waits
abbrev pub forgotten : Record → ℕ
forgotten x = if waits x.place then 0 else x.count

-- a task so much earlier, its tickets less so many; a deadline before the origin counts as 0
abbrev pub earlier : ℕ → ℕ → Record → Record
earlier by count x = record x { count = x.count - count; server = record x.server { d = x.server.d - by } }

abbrev pub rebased : ℕ → Record → Record
rebased by x = earlier by (forgotten x) x

-- the book with its origin at what was the moment by
abbrev pub book_rebased : ℕ → Records → Records
book_rebased by book = map (rebased by) book
