use Rattle.std.proofs.Common.{◌≡◌}
use Rattle.trace_lines.specs.NoteWords.{is_domain}
use Rattle.trace_lines.specs.inside.Parts.{are_ranges, left_length}
use Rattle.trace_lines.proofs.word.is_domain.Given as goal

-- the answer is that of the parts that are left
abbrev pub invariant-loop-left : goal.invariant-loop-left
invariant-loop-left l = are_ranges l.left ≡ is_domain l.word

abbrev pub decreases-loop-left : goal.decreases-loop-left
decreases-loop-left l = left_length l.left
