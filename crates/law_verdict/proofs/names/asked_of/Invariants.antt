use Rattle.std.proofs.Common.{◌≡◌}
use Rattle.law_findings.specs.Asked.{none_asked}
use Rattle.std.specs.List.{slice_split}
use Rattle.trace_lines.specs.NoteWords.{is_comma}
use Rattle.law_verdict.specs.Names.{asked_by}
use Rattle.law_verdict.specs.inside.Asking.{asked_left, left_length}
use Rattle.law_verdict.proofs.names.asked_of.Given as goal

-- the answer is that of the laws so far and the names that are left
abbrev pub invariant-loop-left : goal.invariant-loop-left
invariant-loop-left l = asked_left l.asked l.left ≡ asked_by none_asked (slice_split is_comma l.fn.word)

abbrev pub decreases-loop-left : goal.decreases-loop-left
decreases-loop-left l = left_length l.left
