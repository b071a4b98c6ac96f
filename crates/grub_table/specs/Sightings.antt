-- What stands behind a task that was found busy.
use Rattle.std.specs.Prelude.{◌≡◌, ◌≢◌, ℕ, true, List, Some}
use mathlib.Core.List.{IsPrefix}
use Rattle.grub_book.specs.declared.event.Event.{Event}
use Rattle.grub_table.specs.declared.view.Mark.{Mark}
use Rattle.grub_table.specs.declared.view.Terms.{Terms}
use Rattle.grub_table.specs.Marks.{holder_of}
use Rattle.grub_table.specs.Layout.{shown}
use Rattle.grub_table.specs.Histories.{record_in}

-- a pass other than i holds the task
abbrev pub IsHeldByOther : ℕ → ℕ → List Mark → Type 0
IsHeldByOther i t marks = (j : ℕ) × (holder_of marks t ≡ Some j) × (j ≢ i)

-- at some point of the history, the task word of t was this one, but for the claim bit, which is set in it
abbrev pub WasClaimedWord : Terms → List Event → ℕ → ℕ → Type 0
WasClaimedWord T h t word = (a : List Event) × IsPrefix a h × (word ≡ shown (record_in T a t) true)
