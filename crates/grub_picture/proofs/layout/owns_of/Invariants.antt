use Rattle.std.proofs.Common.{◌≡◌, length}
use Rattle.grub_picture.proofs.layout.owns_of.Given as goal

abbrev pub invariant-loop-t : goal.invariant-loop-t
invariant-loop-t l = length l.owns.items ≡ l.t
