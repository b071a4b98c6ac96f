use Rattle.std.proofs.Common.{◌≡◌}
use Rattle.trace_probes.specs.Fields.{has_field}
use Rattle.trace_probes.specs.inside.Texts.{left_length, words_left}
use Rattle.trace_probes.proofs.values.has_field.Given as goal

-- the answer is that of the words that are left
abbrev pub invariant-loop-left : goal.invariant-loop-left
invariant-loop-left l = has_field l.fn.field (words_left l.left) ≡ has_field l.fn.field (words_left l.words)

abbrev pub decreases-loop-left : goal.decreases-loop-left
decreases-loop-left l = left_length l.left
