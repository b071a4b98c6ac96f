-- A new origin of time, in plain numbers.
use Rattle.std.specs.Prelude.{ℕ, Option, Some, None}
use Rattle.grub_book.specs.Sums.{Records}
use Rattle.grub_book.specs.Rebase.{first_held, book_rebased}
use Rattle.library_book.specs.Asked.{plain_reply}
use Rattle.library_book.specs.declared.asked.NdReply.{NdReply}
use Rattle.library_book.specs.declared.codes.TheConstants.{TOO_FAR}
use Rattle.library_book.specs.declared.rebasing.TheConstants.{REBASED}

-- refused with the first task that holds the origin back, where there is one
abbrev pub rebase_unless : Option ℕ → ℕ → Records → Records × NdReply
rebase_unless None by book = (book_rebased by book, plain_reply REBASED)
rebase_unless (Some t) by book = (book, record (plain_reply TOO_FAR) { number = t })

-- what a book becomes, and what is answered, where its origin is to move by so much
abbrev pub rebase_answer : ℕ → Records → Records × NdReply
rebase_answer by book = rebase_unless (first_held by book) by book
