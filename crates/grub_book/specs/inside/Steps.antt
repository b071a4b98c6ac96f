-- A step by its parts.
use Rattle.std.specs.Prelude.{ℕ, Option, slice_set}
use Rattle.grub_book.specs.Sums.{Records}
use Rattle.grub_book.specs.Step.{unless}
use Rattle.grub_book.specs.declared.place.Record.{Record}
use Rattle.grub_book.specs.declared.reply.Reply.{Reply}

-- the book with a task's new record, and the reply
abbrev pub replied : Records → ℕ → Option Reply → Record × Reply → Records × Reply
replied book t refusal moved = unless refusal book (slice_set book t moved.0, moved.1)
