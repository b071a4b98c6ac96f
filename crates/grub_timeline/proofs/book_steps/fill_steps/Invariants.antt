use Rattle.std.proofs.Common.{◌≡◌, ◌++◌, drop, vec_len, vec_capacity}
use Rattle.grub_timeline.specs.Past.{book_past}
use Rattle.grub_timeline.specs.Replay.{steps_from}
use Rattle.grub_timeline.proofs.book_steps.fill_steps.Given as goal

abbrev pub invariant-loop-x : goal.invariant-loop-x
invariant-loop-x l = record {
  setup : l.book.setup ≡ l.initial.book.setup;
  count : vec_len l.steps ≡ l.x-index;
  room : vec_capacity l.steps ≡ vec_capacity l.initial.steps;
  steps : l.steps.items ++ steps_from l.initial.book.setup l.book.records (drop l.x-index l.told) ≡ steps_from l.initial.book.setup l.initial.book.records l.told;
  records : book_past l.initial.book.setup l.book.records (drop l.x-index l.told) ≡ book_past l.initial.book.setup l.initial.book.records l.told;
}
