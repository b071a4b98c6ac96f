use Rattle.std.proofs.Common.{◌≡◌, ◌+◌, ◌≤◌, ◌++◌, [], List, if◌then◌else◌, length, vec_capacity}
use Rattle.std.specs.Bool.{OnFalse}
use Rattle.std.specs.List.{flat_map}
use Rattle.grub_book.specs.Sums.{opening_book}
use Rattle.grub_timeline.specs.TimeLines.{AreWithin}
use Rattle.grub_timeline.specs.declared.told.ToldEntry.{ToldEntry}
use Rattle.text_bytes.specs.declared.pieces.TheConstants.{LINE_MAX}
use Rattle.text_bytes.specs.Writing.{HandsOn}
use Rattle.grub_timeline.specs.Replay.{steps_of}
use Rattle.grub_views.specs.Rows.{step_row}
use Rattle.grub_timeline.specs.Fitting.{AreToldIn}
use Rattle.grub_timeline.specs.Past.{book_past}
use Rattle.grub_views.proofs.rows.write_rows.Given as goal

-- the rows of the entries before the latest, and the book after them
abbrev pub invariant-loop-more : goal.invariant-loop-more
invariant-loop-more g l = record {
  plan : l.playing.plan ≡ l.plan;
  latest : length l.plan.setup.tasks + 3 ≤ vec_capacity l.maker.latest;
  room : LINE_MAX ≤ vec_capacity l.room.buffer;
  steps : l.playing.most ≤ vec_capacity l.maker.steps;
  waiting : vec_capacity l.maker.latest ≤ vec_capacity l.maker.steps;
  few : length l.playing.chunk ≤ l.playing.most;
  over : OnFalse l.more (l.playing.left ≡ 0);
  none : OnFalse l.more (l.playing.chunk ≡ []);
  within : AreWithin l.plan.setup l.playing.told;
  viewable : AreToldIn l.plan.setup l.playing.chunk;
  setup : l.maker.book.setup ≡ l.plan.setup;
  before : List ToldEntry;
  told : l.playing.told ≡ before ++ l.playing.chunk;
  book : l.maker.book.records ≡ book_past l.plan.setup (opening_book l.plan.setup) before;
  so_far : HandsOn (g.W.Write.contents l.initial.out) (g.W.Write.contents l.out) l.initial.room.buffer.items (flat_map (step_row l.plan.names) (steps_of l.plan.setup before)) l.room.buffer.items;
}

abbrev pub decreases-loop-more : goal.decreases-loop-more
decreases-loop-more g l = if l.more then l.playing.left + 1 else l.playing.left
