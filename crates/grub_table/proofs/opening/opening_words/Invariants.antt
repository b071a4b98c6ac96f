use Rattle.grub_table.specs.inside.FirstWords.{AreOpeningWords}
use Rattle.grub_table.proofs.opening.opening_words.Given as goal

abbrev pub invariant-loop-t : goal.invariant-loop-t
invariant-loop-t l = AreOpeningWords l.setup l.t l.words.items
