use Rattle.std.proofs.Common.{length, arith}
use Rattle.grub_timeline.specs.inside.Merge.{AreNone}
use Rattle.grub_timeline.proofs.Beginning.{none_done}
use Rattle.grub_timeline.proofs.Merging.{midway_first}
use Rattle.grub_timeline.proofs.playing.playing_of.Goals as goal

pub invariant_of-result : goal.invariant_of-result
invariant_of-result c =
    let plan = c.args.plan.now in let p = c.in_ok-player in let count = c.files-files.ensures.count in let room = c.in_ok-closing.ensures.capacity in
    let none : AreNone (length plan.scripts) c.in_ok-done.done.items = none_done _ c.files-files.result c.in_ok-done.done.items (c.in_ok-done.ensures.items_if_clones_equal (λ y h. h)) count in record {
      midway = midway_first plan p.player c.in_ok-done.done.items p.ensures.playing p.ensures.setup none.one_each none.none p.ensures.empty p.ensures.last;
      fits = c.files-files.ensures.limits;
      room = p.ensures.room;
      closing_empty = c.in_ok-closing.ensures.items;
      closing_room = omega (arith, count, room);
    }
