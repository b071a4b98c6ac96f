use Rattle.std.proofs.Common.{◌≡◌}
use Rattle.trace_probes.specs.Fields.{next_value}
use Rattle.trace_probes.specs.inside.Texts.{left_length, words_left}
use Rattle.trace_probes.proofs.values.next_value.Given as goal

-- the answer is that of the words that are left
abbrev pub invariant-loop-left : goal.invariant-loop-left
invariant-loop-left l = next_value l.field (words_left l.left) ≡ next_value l.field (words_left l.words)

abbrev pub decreases-loop-left : goal.decreases-loop-left
decreases-loop-left l = left_length l.left
