use Rattle.std.proofs.Common.{◌≡◌, ◌<◌, ℕ, length, get_or, vec_capacity}
use Rattle.grub_book.specs.declared.event.Reading.{Reading}
use Rattle.grub_book.proofs.book.fill_readings.Given as goal

abbrev pub invariant-loop-r : goal.invariant-loop-r
invariant-loop-r l = record {
  one_each : length l.readings.items ≡ l._r;
  room : vec_capacity l.readings ≡ vec_capacity l.initial.readings;
  zero : (r : ℕ) (d : Reading) → r < l._r → get_or l.readings.items r d ≡ record { running = 0; this = 0 };
}
