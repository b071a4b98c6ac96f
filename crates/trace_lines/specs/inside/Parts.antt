-- The parts of a list of CPUs that are left.
use Rattle.std.specs.Prelude.{ℕ, Bool, true, ◌+◌, List, length, Option, Some, None}
use Rattle.std.specs.Borrow.{Bor}
use Rattle.trace_lines.specs.NoteWords.{is_domain}

abbrev pub are_ranges : Option (Bor (List ℕ)) → Bool
are_ranges None = true
are_ranges (Some text) = is_domain text.now

-- how many bytes are left, and one more where there is a part
abbrev pub left_length : Option (Bor (List ℕ)) → ℕ
left_length None = 0
left_length (Some text) = length text.now + 1
