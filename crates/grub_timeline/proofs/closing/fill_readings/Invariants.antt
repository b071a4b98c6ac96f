use Rattle.std.proofs.Common.{◌≡◌, ◌<◌, ℕ, length, get_or, vec_capacity}
use Rattle.grub_book.specs.Sums.{reading_of}
use Rattle.grub_book.specs.declared.event.Reading.{Reading}
use Rattle.grub_timeline.proofs.closing.fill_readings.Given as goal

-- the readings so far
abbrev pub invariant-loop-r : goal.invariant-loop-r
invariant-loop-r l =
    (length l.readings.items ≡ l.r) × (vec_capacity l.readings ≡ vec_capacity l.fn.readings) × ((r : ℕ) (d : Reading) → r < l.r → get_or l.readings.items r d ≡ reading_of l.book.records r)
