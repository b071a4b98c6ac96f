use Rattle.std.proofs.Common.{◌≡◌, ℕ, ◌<◌, ◌++◌, [], length, map, get_or}
use Rattle.std.specs.List.{All}
use Rattle.grub_book.specs.declared.event.Reading.{Reading}
use Rattle.grub_table.specs.Calls.{IsPassOf, share_of}
use Rattle.grub_table.proofs.Closings.{IsReadingOf}
use Rattle.grub_table.proofs.shared.Shared.end.Given as goal

abbrev pub invariant-loop-pass : goal.invariant-loop-pass
invariant-loop-pass l = record {
  table : l.seat.table_id ≡ l.self.table.inner.shared.table_id;
  empty : l.seat.me.1 ≡ [];
  of : All (IsPassOf l.self) l.passes.items;
  all : map share_of l.passes.items ++ l.seat.me.0.view.shares ≡ map share_of l.fn.passes.items;
}

abbrev pub decreases-loop-pass : goal.decreases-loop-pass
decreases-loop-pass l = goal.left-loop-pass l

abbrev pub invariant-loop-r : goal.invariant-loop-r
invariant-loop-r l = record {
  room : length l.readings.items ≡ length l.initial.readings.items;
  done : (k : ℕ) (d : Reading) → k < l.r → IsReadingOf l.closed.words.items k (get_or l.readings.items k d);
}
