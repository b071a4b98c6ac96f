use Rattle.grub_book.proofs.Going.{rebased_goes_on}
use Rattle.grub_book.proofs.Rebasing.{sound_rebased}
use Rattle.grub_book.proofs.laws.rebased_books_go_on.Goals as goal

pub returns-clause-legal : goal.returns-clause-legal
returns-clause-legal c = λ s book by h sound free legal since. (rebased_goes_on s book by h sound free legal since).0

pub returns-clause-records : goal.returns-clause-records
returns-clause-records c = λ s book by h t sound free legal since here. (rebased_goes_on s book by h sound free legal since).1.records t here

pub returns-clause-sound : goal.returns-clause-sound
returns-clause-sound c = λ s book by sound. sound_rebased s by book sound
