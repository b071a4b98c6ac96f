use Rattle.std.proofs.Common.{◌≡◌, ◌≤◌, ◌++◌, ℕ, List, drop, vec_capacity}
use Rattle.text_bytes.specs.declared.pieces.TheConstants.{LINE_MAX}
use Rattle.text_bytes.specs.Writing.{HandsOn}
use Rattle.grub_views.specs.Lines.{close_lines}
use Rattle.grub_views.proofs.lines.write_closing.Given as goal

abbrev pub invariant-loop-r : goal.invariant-loop-r
invariant-loop-r g l = record {
  room : LINE_MAX ≤ vec_capacity l.buffer;
  done : List ℕ;
  left : done ++ close_lines l.r (drop l.r l.closing) ≡ close_lines 0 l.closing;
  so_far : HandsOn (g.W.Write.contents l.initial.out) (g.W.Write.contents l.out) l.initial.buffer.items done l.buffer.items;
}
