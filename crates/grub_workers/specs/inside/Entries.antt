-- The takings and givings that an entry shows.
use Rattle.std.specs.Prelude.{◌==◌, ℕ, Bool, true, false, if◌then◌else◌, List, [], ◌∷◌, filter}
use Rattle.std.specs.List.{flat_map}
use Rattle.grub_table.specs.declared.view.Mark.{Mark}
use Rattle.grub_table.specs.declared.view.Mark.TheVariants.{Taken, Given}
use Rattle.grub_table.specs.Marks.{marker_of}
use Rattle.grub_plan.specs.declared.entry.Ask.{Ask}
use Rattle.grub_plan.specs.declared.entry.Ask.TheVariants.{Call, Read}
use Rattle.grub_plan.specs.declared.entry.Answer.{Answer}
use Rattle.grub_plan.specs.declared.entry.Entry.{Entry}
use Rattle.grub_plan.specs.declared.entry.Answer.TheVariants.{Replied, Seen, Busy, Lost}
use Rattle.grub_book.specs.Step.{is_under_claim}

-- the marks of one pass, in order
abbrev pub marks_of : ℕ → List Mark → List Mark
marks_of i marks = filter (λ m. marker_of m == i) marks

-- the worker held the task during the ask
abbrev pub has_held : Answer → Bool
has_held (Replied reply) = is_under_claim reply
has_held (Seen reading) = false
has_held Busy = false
has_held Lost = true

abbrev pub mark_told : ℕ → Ask → Answer → List Mark
mark_told i (Call t op) answer = if has_held answer then Taken i t ∷ Given i t ∷ [] else []
mark_told i Read answer = []

-- a Taken and a Given for each entry that was answered Lost, or by a reply under a claim
abbrev pub marks_told : ℕ → List Entry → List Mark
marks_told i entries = flat_map (λ e. mark_told i e.ask e.answer) entries
