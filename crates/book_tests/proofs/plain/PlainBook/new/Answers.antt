use Rattle.grub_book.proofs.Soundness.{sound_opening}
use Rattle.book_tests.proofs.plain.PlainBook.new.Goals as goal

pub invariant_of-result : goal.invariant_of-result
invariant_of-result c = record { machine = c.opening_records.ensures.limits; sound = rw c.in_ok-records.ensures.records (sound_opening c.args.setup.now c.opening_records.ensures.limits) }
