use Rattle.std.proofs.Common.{◌≡◌, ◌<◌, ◌≤◌, ℕ, length, get_or}
use Rattle.grub_book.specs.declared.event.Reading.{Reading}
use Rattle.library_book.specs.declared.numbers.NdReading.{NdReading}
use Rattle.neddwyrol_table.specs.Ended.{plain_reading}
use Rattle.neddwyrol_table.proofs.closing.written.Given as goal

abbrev pub invariant-loop-i : goal.invariant-loop-i
invariant-loop-i l = record {
  count : length l.readings ≡ length l.initial.readings;
  each : (k : ℕ) (x : Reading) (d : NdReading) → k < l.i → get_or l.readings k d ≡ plain_reading (get_or l.last k x);
  rest : (k : ℕ) (d : NdReading) → l.i ≤ k → get_or l.readings k d ≡ get_or l.initial.readings k d;
}
