-- Words of options, as the code holds them.
use Rattle.std.specs.Prelude.{ℕ, Bool, List, ◌+◌, length, Option, Some, None}
use Rattle.std.specs.Borrow.{Bor}
use Rattle.std.specs.List.{slice_split}
use Rattle.std.specs.Str.{bytes_eq}
use Rattle.trace_lines.specs.NoteWords.{is_comma}
use Rattle.trace_lines.specs.declared.word.CpuRange.{CpuRange}
use Rattle.trace_options.specs.Words.{ranges_on}
use Rattle.trace_options.specs.declared.options.TaskOption.{TaskOption}

abbrev pub is_named : List ℕ → TaskOption → Bool
is_named name task = bytes_eq task.name.now name

-- ranges, and those of the text that is left
abbrev pub ranges_left : List CpuRange → Option CpuRange → Option (Bor (List ℕ)) → Option (List CpuRange)
ranges_left ranges before None = Some ranges
ranges_left ranges before (Some text) = ranges_on ranges before (slice_split is_comma text.now)

-- how many bytes are left, and one more where there is a part
abbrev pub left_length : Option (Bor (List ℕ)) → ℕ
left_length None = 0
left_length (Some text) = length text.now + 1
