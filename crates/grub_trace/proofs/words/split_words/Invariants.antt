use Rattle.std.proofs.Common.{length}
use Rattle.grub_trace.proofs.WordLemmas.{SplitsOn}
use Rattle.grub_trace.proofs.words.split_words.Given as goal

abbrev pub invariant-loop-word : goal.invariant-loop-word
invariant-loop-word l = SplitsOn l.list l.count l.rest l.line

abbrev pub decreases-loop-word : goal.decreases-loop-word
decreases-loop-word l = length l.rest
