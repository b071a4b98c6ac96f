-- A word of names, as the code holds it.
use Rattle.std.specs.Prelude.{ℕ, ◌+◌, List, length, Option, Some, None}
use Rattle.std.specs.Borrow.{Bor}
use Rattle.std.specs.List.{slice_split}
use Rattle.law_findings.specs.declared.asked.AskedLaws.{AskedLaws}
use Rattle.law_verdict.specs.Names.{asked_by}
use Rattle.trace_lines.specs.NoteWords.{is_comma}

-- these laws and those of the names that are left
abbrev pub asked_left : AskedLaws → Option (Bor (List ℕ)) → Option AskedLaws
asked_left asked None = Some asked
asked_left asked (Some text) = asked_by asked (slice_split is_comma text.now)

-- how many bytes are left, and one more where there is a name
abbrev pub left_length : Option (Bor (List ℕ)) → ℕ
left_length None = 0
left_length (Some text) = length text.now + 1
