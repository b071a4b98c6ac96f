use Rattle.std.proofs.Common.{◌≡◌, ◌+◌, ◌≤◌, ◌++◌, [], List, if◌then◌else◌, length, vec_capacity}
use Rattle.std.specs.Bool.{OnFalse}
use Rattle.std.specs.List.{flat_map}
use Rattle.grub_timeline.specs.TimeLines.{AreWithin}
use Rattle.grub_timeline.specs.declared.told.ToldEntry.{ToldEntry}
use Rattle.text_bytes.specs.declared.pieces.TheConstants.{LINE_MAX}
use Rattle.text_bytes.specs.Writing.{HandsOn}
use Rattle.grub_views.specs.Lines.{told_line}
use Rattle.grub_views.proofs.lines.write_played.Given as goal

-- the lines of the entries before the latest
abbrev pub invariant-loop-more : goal.invariant-loop-more
invariant-loop-more g l = record {
  plan : l.playing.plan ≡ l.plan;
  latest : length l.plan.setup.tasks + 3 ≤ vec_capacity l.latest;
  room : LINE_MAX ≤ vec_capacity l.room.buffer;
  over : OnFalse l.more (l.playing.left ≡ 0);
  none : OnFalse l.more (l.playing.chunk ≡ []);
  within : AreWithin l.plan.setup l.playing.chunk;
  before : List ToldEntry;
  told : l.playing.told ≡ before ++ l.playing.chunk;
  so_far : HandsOn (g.W.Write.contents l.initial.out) (g.W.Write.contents l.out) l.initial.room.buffer.items (flat_map (told_line l.plan.names) before) l.room.buffer.items;
}

abbrev pub decreases-loop-more : goal.decreases-loop-more
decreases-loop-more g l = if l.more then l.playing.left + 1 else l.playing.left
