-- The words of a table behind their count: which table they are of, and when a seat may step on one of them.
use Rattle.std.specs.Prelude.{◌≡◌, ℕ, ◌<◌}
use mathlib.Core.Option.{Option}
use Rattle.atomic_table.specs.Seated.{TableId}
use Rattle.atomic_table.specs.Table.{Allows, Me, Step, step}
use Rattle.atomic_table.specs.declared.shared.Seat.{Seat}
use Rattle.grub_table.specs.declared.counted.CountedTable.{CountedTable}
use Rattle.grub_table.specs.declared.view.Note.{Note}
use Rattle.grub_table.specs.declared.view.Terms.{Terms}
use Rattle.grub_table.specs.declared.view.Trail.{Trail}
use Rattle.grub_table.specs.declared.view.View.{View}
use Rattle.grub_table.specs.inside.Rule.{Kept}
use Rattle.grub_table.specs.inside.Trails.{known}

abbrev pub id_of : CountedTable → TableId
id_of t = t.inner.shared.table_id

-- what the table was opened for, which its rule is about
abbrev pub terms_of : CountedTable → Terms
terms_of t = t.inner.shared.key

-- a step at a word of the table
abbrev pub step_at : CountedTable → ℕ → ℕ → ℕ → Option Note → Step Note
step_at t word first second said = step (id_of t).slots word first second said

-- the seat is at this table and the word is there; whatever the word is, the rule lets it become f of what it was, and this is told
abbrev pub MayStep : CountedTable → Seat Note Trail → ℕ → (ℕ → ℕ) → (ℕ → Me Note View → Type 0) → Type 0
MayStep t seat word f tells = (seat.table_id ≡ id_of t) × (word < (id_of t).words)
    × Allows (Kept (terms_of t)) (id_of t).slots seat.id (known seat.me) word f tells
