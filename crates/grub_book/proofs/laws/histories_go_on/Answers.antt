use Rattle.grub_book.proofs.Changes.{changes-append}
use Rattle.grub_book.proofs.Histories.{legal_prefix, legal_push, legal_last, book_push, calls_append}
use Rattle.grub_book.proofs.laws.histories_go_on.Goals as goal

pub returns-clause-beginning : goal.returns-clause-beginning
returns-clause-beginning c = legal_prefix

pub returns-clause-more : goal.returns-clause-more
returns-clause-more c = legal_push

pub returns-clause-last : goal.returns-clause-last
returns-clause-last c = legal_last

pub returns-clause-book : goal.returns-clause-book
returns-clause-book c = book_push

pub returns-clause-calls : goal.returns-clause-calls
returns-clause-calls c = calls_append

pub returns-clause-changes : goal.returns-clause-changes
returns-clause-changes c = changes-append
