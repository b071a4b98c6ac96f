-- The book after entries.
use Rattle.std.specs.Prelude.{List, [], ◌∷◌}
use Rattle.grub_book.specs.Machine.{Machine}
use Rattle.grub_book.specs.Sums.{Records}
use Rattle.grub_timeline.specs.declared.told.ToldEntry.{ToldEntry}
use Rattle.grub_timeline.specs.Replay.{book_after}

-- what a book becomes by these entries
abbrev pub book_past : Machine → Records → List ToldEntry → Records
book_past s book [] = book
book_past s book (x ∷ told) = book_past s (book_after s book x.entry.ask) told
