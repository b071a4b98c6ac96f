use Rattle.std.proofs.Common.{◌≤◌, take, vec_capacity, []}
use Rattle.text_bytes.specs.declared.pieces.TheConstants.{LINE_MAX}
use Rattle.text_bytes.specs.Writing.{HandsOn}
use Rattle.grub_run.specs.Written.{texts_from}
use Rattle.grub_run.proofs.by_threads.write_reports.Given as goal

abbrev pub invariant-loop-r : goal.invariant-loop-r
invariant-loop-r g l = record {
  room : LINE_MAX ≤ vec_capacity l.room.buffer;
  so_far : HandsOn (g.W.Write.contents l.initial.out) (g.W.Write.contents l.out) [] (texts_from l.plan.names 0 (take l.r l.reports) (take l.r l.closing)) l.room.buffer.items;
}
