-- What stands between the steps of a call: the seat of a pass, and what it was told.
use Rattle.std.specs.Prelude.{◌≡◌, ℕ, ◌<◌, [], length, None, Result, Ok, Err}
use mathlib.Core.Option.{Option}
use Rattle.atomic_table.specs.Table.{Allows, Step}
use Rattle.grub_book.specs.Op.{IsOp}
use Rattle.grub_book.specs.Sound.{IsKept}
use Rattle.grub_book.specs.Step.{early, refused}
use Rattle.grub_book.specs.declared.op.Op.{Op}
use Rattle.grub_book.specs.declared.place.Record.{Record}
use Rattle.grub_table.specs.declared.shared.Shared.{Shared}
use Rattle.grub_table.specs.declared.seated.Seated.{Seated}
use Rattle.grub_table.specs.declared.view.Hold.{Hold}
use Rattle.grub_table.specs.declared.view.Hold.TheVariants.{Undecided, Decided}
use Rattle.grub_table.specs.declared.view.Note.{Note}
use Rattle.grub_table.specs.declared.view.Share.{Share}
use Rattle.grub_table.specs.declared.view.Stored.{Stored}
use Rattle.grub_table.specs.declared.view.Terms.{Terms}
use Rattle.grub_table.specs.declared.task.TaskWord.{TaskWord}
use Rattle.grub_table.specs.Histories.{record_in}
use Rattle.grub_table.specs.inside.Tellings.{Adds, CallsIf, DecidesIf, IsOthers, Sees, Turns}
use Rattle.grub_table.specs.inside.Counted.{id_of, step_at, terms_of}
use Rattle.grub_table.specs.inside.Rule.{Kept}
use Rattle.grub_table.specs.inside.Trails.{known}
use Rattle.grub_table.specs.Calls.{share_on, IsSeatOf}

abbrev pub hold_of : Seated → Hold
hold_of x = (share_on x).hold

-- a step at a word of the table
abbrev pub made_step : Shared → ℕ → ℕ → ℕ → Option Note → Step Note
made_step s word first second said = step_at s.table word first second said

-- the word is there, and whatever it is, the rule lets it become f of what it was, and this is told
abbrev pub IsAllowed : Shared → Seated → ℕ → (ℕ → ℕ) → (ℕ → Terms → Share → Share → Type 0) → Type 0
IsAllowed s x word f tells = (word < (id_of s.table).words)
    × Allows (Kept (terms_of s.table)) (id_of s.table).slots x.seat.id (known x.seat.me) word f (λ n m'. Turns (tells n) (known x.seat.me) m')

-- the seat is still at the table and of the same pass, and this is told of its shares
pub record Tells (s : Shared) (told : Terms → Share → Share → Type 0) (old new : Seated) : Type 0 where
  pub seat : IsSeatOf s new
  pub number : (share_on new).number ≡ (share_on old).number
  pub of : told s.terms (share_on old) (share_on new)

-- the seat holds a task with this record, for an op that the place, the count and the ticket do not refuse
pub record HoldsFor (s : Shared) (x : Seated) (t : ℕ) (asked : Op) (rec : Record) : Type 0 where
  pub seat_of : IsSeatOf s x
  pub hold : hold_of x ≡ Undecided t asked rec
  pub task : t < length s.terms.setup.tasks
  pub op : IsOp s.terms.setup asked
  pub kept : IsKept s.terms.setup rec
  pub unrefused : refused rec.place rec.count asked ≡ None

-- the seat holds this task, or some task, so, and this is true of the op and the record
abbrev pub HoldsTask : Shared → Seated → ℕ → (Op → Record → Type 0) → Type 0
HoldsTask s x t about = (asked : Op) × (rec : Record) × HoldsFor s x t asked rec × about asked rec

abbrev pub HoldsSome : Shared → Seated → (Op → Record → Type 0) → Type 0
HoldsSome s x about = (t : ℕ) × (asked : Op) × (rec : Record) × HoldsFor s x t asked rec × about asked rec

-- ---- what steps tell together
-- the word of a task that another pass has, or what the word of a free task says
abbrev pub SawTask : ℕ → Op → Result TaskWord ℕ → Terms → Share → Share → Type 0
SawTask t op (Err word) T x y = (y.hold ≡ x.hold) × Adds T x [] y × Sees T x y × IsOthers T x.number t word y
SawTask t op (Ok w) T x y =
    (y.hold ≡ x.hold) × Adds T x [] y
    × (let rec = record_in T y.seen t in (w.place ≡ rec.place) × (w.count ≡ rec.count) × IsKept T.setup rec × CallsIf (refused w.place w.count op) T x t op y)

-- the two words of the record of a task that the pass has taken
abbrev pub SawRecord : Record → Terms → Share → Share → Type 0
SawRecord found T x y = (t : ℕ) (op : Op) (rec : Record) → x.hold ≡ Undecided t op rec
    → (found ≡ rec) × (y.marks ≡ x.marks) × (record_in T y.seen t ≡ rec) × DecidesIf (early rec op) T x t op rec y

-- the seat holds a task whose call is made: its record is now this one, and its words are still to be stored
pub record HoldsMade (s : Shared) (x : Seated) (t : ℕ) (now : Record) (stored : Stored) : Type 0 where
  pub seat_of : IsSeatOf s x
  pub task : t < length s.terms.setup.tasks
  pub hold : (before : Record) × (hold_of x ≡ Decided t before now stored)
