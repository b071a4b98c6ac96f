use Rattle.library_book.proofs.Telling.{told, recorded}
use Rattle.library_book.proofs.laws.histories_are_the_books.Goals as goal

pub returns-clause-told : goal.returns-clause-told
returns-clause-told c = told

pub returns-clause-recorded : goal.returns-clause-recorded
returns-clause-recorded c = recorded
