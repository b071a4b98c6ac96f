use Rattle.std.proofs.Common.{refl}
use Rattle.grub_table.proofs.Openings.{opens_as}
use Rattle.grub_table.proofs.opening.made.Goals as goal

pub of_words-requires : goal.of_words-requires
of_words-requires c = opens_as _ _ _ _ c.in_ok-copied.ensures.limits c.in_ok-words.ensures c.as_slice.ensures.value refl
