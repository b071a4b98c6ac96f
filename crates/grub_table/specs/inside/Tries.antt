-- What is told, between its steps, of a pass that makes the call for which it holds a task.
use Rattle.std.specs.Prelude.{◌≡◌, ℕ, Bool, true, false, Option, Some, None}
use Rattle.grub_book.specs.History.{HasChanged}
use Rattle.grub_book.specs.Sound.{IsKept}
use Rattle.grub_book.specs.Step.{changes_sum, is_under_claim}
use Rattle.grub_book.specs.declared.op.Op.{Op}
use Rattle.grub_book.specs.declared.op.Op.TheVariants.{Charge}
use Rattle.grub_book.specs.declared.place.Record.{Record}
use Rattle.grub_book.specs.declared.reply.Reply.{Reply}
use Rattle.grub_table.specs.Words.{server_word, params_word}
use Rattle.grub_table.specs.declared.view.Hold.TheVariants.{Undecided}
use Rattle.grub_table.specs.declared.view.Share.{Share}
use Rattle.grub_table.specs.declared.view.Stored.{Stored}
use Rattle.grub_table.specs.declared.view.Terms.{Terms}
use Rattle.grub_table.specs.Histories.{record_in}
use Rattle.grub_table.specs.inside.Layout.{stored_of}
use Rattle.grub_table.specs.inside.Tellings.{Sees, Decides}

-- whether the op takes a run from a budget
abbrev pub is_charge : Op → Bool
is_charge (Charge r dt) = true
is_charge op = false

-- a try: the call was made with this outcome, or an exchange was lost to a change of the runqueue's reading
abbrev pub TriedAs : ℕ → Option (Record × Reply) → Terms → Share → ℕ → Op → Record → Share → Type 0
TriedAs r (Some p) T x t op rec y = Decides T x t op rec p (stored_of rec) y × IsKept T.setup p.0 × (is_under_claim p.1 ≡ true)
TriedAs r None T x t op rec y = Sees T x y × (y.hold ≡ x.hold) × (record_in T y.seen t ≡ rec) × HasChanged T.setup r x.seen y.seen 1 × (changes_sum rec op ≡ true)

abbrev pub Tried : ℕ → Option (Record × Reply) → Terms → Share → Share → Type 0
Tried r o T x y = (t : ℕ) (op : Op) (rec : Record) → x.hold ≡ Undecided t op rec
    → (y.marks ≡ x.marks) × TriedAs r o T x t op rec y

-- the pass knows what it knew
abbrev pub KnowsNoMore : Terms → Share → Share → Type 0
KnowsNoMore T x y = (y.seen ≡ x.seen) × (y.marks ≡ x.marks)

-- after the event, where the server word is stored, and the parameter word not yet
abbrev pub half_stored : Record → Record → Stored
half_stored before now = record { server = server_word now.server; params = params_word before.params }
