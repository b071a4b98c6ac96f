-- What each single step tells the pass that makes it. x is its share before the step, and y after it.
use Rattle.std.specs.Prelude.{◌≡◌, ◌≢◌, ◌⊎◌, ℕ, ◌≤◌, Bool, true, false, List, [], ◌∷◌, Option, Some, None}
use mathlib.Core.Option.{Option as MOption, some, none}
use Rattle.atomic_table.specs.Table.{Step}
use Rattle.grub_book.specs.Bandwidth.{Reservation}
use Rattle.grub_book.specs.declared.server.Server.{Server}
use Rattle.grub_book.specs.Machine.{queue_at}
use Rattle.grub_book.specs.History.{pass_of}
use Rattle.grub_book.specs.Sound.{IsKept}
use Rattle.grub_book.specs.Step.{early, refused, settled}
use Rattle.grub_book.specs.Totals.{Counts}
use Rattle.grub_book.specs.declared.event.Event.{Event}
use Rattle.grub_book.specs.declared.event.Event.TheVariants.{Call, Look}
use Rattle.grub_book.specs.declared.event.Reading.{Reading}
use Rattle.grub_book.specs.declared.op.Op.{Op}
use Rattle.grub_book.specs.declared.op.Op.TheVariants.{Leave}
use Rattle.grub_book.specs.declared.place.Record.{Record}
use Rattle.grub_book.specs.declared.reply.Reply.{Reply}
use Rattle.grub_book.specs.declared.reply.Reply.TheVariants.{Charged, Full, DeadlineOverflow}
use Rattle.grub_table.specs.declared.view.Mark.{Mark}
use Rattle.grub_table.specs.declared.view.Mark.TheVariants.{Taken, Given}
use Rattle.grub_table.specs.declared.view.Note.{Note}
use Rattle.grub_table.specs.declared.view.Stored.{Stored}
use Rattle.grub_table.specs.declared.view.Terms.{Terms}
use Rattle.grub_table.specs.declared.view.Share.{Share}
use Rattle.grub_table.specs.declared.view.Hold.TheVariants.{Free, Undecided, Decided}
use Rattle.grub_table.specs.Marks.{AreLawful, marker_of}
use Rattle.grub_table.specs.Layout.{queue_word_at, shown}
use Rattle.grub_table.specs.inside.Layout.{stored_of}
use Rattle.grub_table.specs.Histories.{IsHistory, EndsWith, WasBefore, record_in, reading_in}
use Rattle.grub_table.specs.Knowing.{GoesOn}
use Rattle.grub_table.specs.Views.{first_of}
use Rattle.grub_table.specs.inside.Views.{alone, Sat, StandTogether}
use Rattle.grub_table.specs.Sightings.{IsHeldByOther, WasClaimedWord}

-- a reply that stands as soon as the runqueue's word is loaded
abbrev pub is_decided_at_load : Reply → Bool
is_decided_at_load (Charged k q d dq) = true
is_decided_at_load Full = true
is_decided_at_load DeadlineOverflow = true
is_decided_at_load reply = false

-- the new record and the reply of an op whose outcome hangs on no runqueue
abbrev pub settled_quietly : Record → Op → Record × Reply
settled_quietly x op = settled x (record { most = 1; extra = 0 }) (record { running = 0; this = 0 }) op

-- the history went on, with no event of pass i
abbrev pub Grows : Terms → ℕ → List Event → List Event → Type 0
Grows T i before after = IsHistory T after × GoesOn pass_of i before after []

-- the history went on and ends with this event, the only new one of pass i
abbrev pub Finishes : Terms → ℕ → List Event → Event → List Event → Type 0
Finishes T i before e after = IsHistory T after × GoesOn pass_of i before after (e ∷ []) × EndsWith after e

-- the marks of n passes went on, and these are the new ones of pass i
abbrev pub MarksGo : ℕ → ℕ → List Mark → List Mark → List Mark → Type 0
MarksGo n i before after more = AreLawful n after × GoesOn marker_of i before after more

-- the history went on, with no event of the pass
abbrev pub Sees : Terms → Share → Share → Type 0
Sees T x y = Grows T x.number x.seen y.seen

-- the history went on and ends with this call of the pass
abbrev pub Calls : Terms → Share → ℕ → Op → Reply → Share → Type 0
Calls T x t op reply y = Finishes T x.number x.seen (Call x.number t op reply) y.seen

-- the marks went on, and these are the pass's own
abbrev pub Adds : Terms → Share → List Mark → Share → Type 0
Adds T x more y = MarksGo T.passes x.number x.marks y.marks more

-- where there is a reply, the call was made
abbrev pub CallsIf : Option Reply → Terms → Share → ℕ → Op → Share → Type 0
CallsIf None T x t op y = Sees T x y
CallsIf (Some reply) T x t op y = Calls T x t op reply y

-- the task word of a task that a pass other than i holds
abbrev pub IsOthers : Terms → ℕ → ℕ → ℕ → Share → Type 0
IsOthers T i t word y = WasClaimedWord T y.seen t word × IsHeldByOther i t y.marks

-- the word is that of some value, of which this is told
abbrev pub Of : {V : Type 0} → (V → ℕ) → (V → Type 0) → (V → Terms → Share → Share → Type 0) → ℕ → Terms → Share → Share → Type 0
Of {V} word fits saw found T x y = (v : V) × fits v × (word v ≡ found) × saw v T x y

-- look: a runqueue's reading was loaded
abbrev pub SawReading : ℕ → Reading → Terms → Share → Share → Type 0
SawReading r now T x y =
    (y.hold ≡ x.hold) × (y.marks ≡ x.marks) × Finishes T x.number x.seen (Look x.number r now) y.seen
    × ((t : ℕ) (op : Op) (rec : Record) → x.hold ≡ Undecided t op rec → record_in T y.seen t ≡ rec)

-- load-task: the task word was loaded, which is the event where the place, the count or the ticket decides the reply
abbrev pub LoadedTask : Note → ℕ → Terms → Share → Share → Type 0
LoadedTask n found T x y =
    (y.hold ≡ x.hold) × Adds T x [] y
    × ((Sees T x y × IsOthers T x.number n.task found y)
    ⊎ (let rec = record_in T y.seen n.task in (found ≡ shown rec false) × IsKept T.setup rec × CallsIf (refused rec.place rec.count n.op) T x n.task n.op y))

-- take-claim: the task word was loaded, and its claim bit was set where the word was the old one
abbrev pub TookClaim : Note → ℕ → ℕ → Terms → Share → Share → Type 0
TookClaim n old found T x y =
    Sees T x y
    × (found ≡ old → (rec : Record) × (y.hold ≡ Undecided n.task n.op rec) × (old ≡ shown rec false) × IsKept T.setup rec × (record_in T y.seen n.task ≡ rec) × Adds T x (Taken x.number n.task ∷ []) y)
    × (found ≢ old → (y.hold ≡ x.hold) × Adds T x [] y × (IsOthers T x.number n.task found y ⊎ (found ≡ shown (record_in T y.seen n.task) false)))

-- load-params: the reservation was loaded under a claim
abbrev pub SawParams : Reservation → Terms → Share → Share → Type 0
SawParams p T x y = (t : ℕ) (op : Op) (rec : Record) → x.hold ≡ Undecided t op rec
    → (p ≡ rec.params) × (y.hold ≡ x.hold) × (y.marks ≡ x.marks) × Sees T x y

-- nothing is decided, or this reply is, which leaves the record
abbrev pub DecidesIf : Option Reply → Terms → Share → ℕ → Op → Record → Share → Type 0
DecidesIf None T x t op rec y = Sees T x y × (y.hold ≡ Undecided t op rec)
DecidesIf (Some reply) T x t op rec y = Calls T x t op reply y × (y.hold ≡ Decided t rec rec (stored_of rec))

-- load-server: the server was loaded under a claim, which is the event where the server decides the reply
abbrev pub SawServer : Server → Terms → Share → Share → Type 0
SawServer server T x y = (t : ℕ) (op : Op) (rec : Record) → x.hold ≡ Undecided t op rec
    → (server ≡ rec.server) × (y.marks ≡ x.marks) × (record_in T y.seen t ≡ rec) × DecidesIf (early rec op) T x t op rec y

-- the outcome of an op on a runqueue of the table with this reading
abbrev pub outcome : Terms → ℕ → Reading → Record → Op → Record × Reply
outcome T r now rec op = settled rec (queue_at T.setup r) now op

-- the call was made with this outcome, on the record that the claim is held for, and nothing is stored yet
abbrev pub Decides : Terms → Share → ℕ → Op → Record → Record × Reply → Stored → Share → Type 0
Decides T x t op rec p stored y = Calls T x t op p.1 y × (y.hold ≡ Decided t rec p.0 stored) × WasBefore T t rec (Call x.number t op p.1) y.seen

-- a runqueue that a claim is about has this reading
pub record IsReadingFor (T : Terms) (r : ℕ) (rec : Record) (now : Reading) : Type 0 where
  pub running : now.running ≤ now.this
  pub this : now.this ≤ (queue_at T.setup r).most
  pub counts : Counts now r rec

abbrev pub SawQueueAs : Bool → Terms → Share → ℕ → ℕ → Op → Record → Reading → Share → Type 0
SawQueueAs true T x r t op rec now y = Decides T x t op rec (outcome T r now rec op) (stored_of rec) y
SawQueueAs false T x r t op rec now y = Sees T x y × (y.hold ≡ x.hold) × (now ≡ reading_in T y.seen r) × (record_in T y.seen t ≡ rec)

-- load-queue: the runqueue's reading was loaded under a claim, which is the event where it decides the reply
abbrev pub SawQueue : ℕ → Reading → Terms → Share → Share → Type 0
SawQueue r now T x y = (t : ℕ) (op : Op) (rec : Record) → x.hold ≡ Undecided t op rec
    → (y.marks ≡ x.marks) × IsReadingFor T r rec now × SawQueueAs (is_decided_at_load (outcome T r now rec op).1) T x r t op rec now y

-- change-queue: whether the runqueue's reading was still this one under a claim; its exchange is the event
abbrev pub ChangedQueue : ℕ → Reading → Bool → Terms → Share → Share → Type 0
ChangedQueue r now true T x y = (t : ℕ) (op : Op) (rec : Record) → x.hold ≡ Undecided t op rec
    → (y.marks ≡ x.marks) × Decides T x t op rec (outcome T r now rec op) (stored_of rec) y
ChangedQueue r now false T x y = (t : ℕ) (op : Op) (rec : Record) → x.hold ≡ Undecided t op rec
    → (y.marks ≡ x.marks) × Sees T x y × (y.hold ≡ x.hold) × (now ≢ reading_in T y.seen r) × (record_in T y.seen t ≡ rec)

-- settle-server: the server word is stored, which is the event of an op that changes no sum
abbrev pub SettledServer : ℕ → Terms → Share → Share → Type 0
SettledServer stored T x y = (t : ℕ) (op : Op) (rec : Record) → x.hold ≡ Undecided t op rec
    → (y.marks ≡ x.marks) × Decides T x t op rec (settled_quietly rec op) (record { server = stored; params = (stored_of rec).params }) y

-- store-server and store-params, after the event
abbrev pub StoredServer : ℕ → Terms → Share → Share → Type 0
StoredServer n T x y = (t : ℕ) (before now : Record) (stored : Stored) → x.hold ≡ Decided t before now stored
    → (y.seen ≡ x.seen) × (y.marks ≡ x.marks) × (y.hold ≡ Decided t before now (record { server = n; params = stored.params }))

abbrev pub StoredParams : ℕ → Terms → Share → Share → Type 0
StoredParams n T x y = (t : ℕ) (before now : Record) (stored : Stored) → x.hold ≡ Decided t before now stored
    → (y.seen ≡ x.seen) × (y.marks ≡ x.marks) × (y.hold ≡ Decided t before now (record { server = stored.server; params = n }))

-- the task is given, and the pass holds none
abbrev pub Gives : ℕ → Terms → Share → Share → Type 0
Gives t T x y = (y.hold ≡ Free) × Adds T x (Given x.number t ∷ []) y

-- give-up: the task of a call that is not made is given
abbrev pub GaveUp : Terms → Share → Share → Type 0
GaveUp T x y = (t : ℕ) (op : Op) (rec : Record) → x.hold ≡ Undecided t op rec
    → Sees T x y × Gives t T x y

-- give-back: the task of a call that is made is given
abbrev pub GaveBack : Terms → Share → Share → Type 0
GaveBack T x y = (t : ℕ) (before now : Record) (stored : Stored) → x.hold ≡ Decided t before now stored
    → (y.seen ≡ x.seen) × Gives t T x y

-- the view is one share before and after, of the same pass, and this is told of them
pub record Turns {S : Type 0} (tells : Terms → Share → Share → Type 0) (m m' : Sat S) : Type 0 where
  pub single : m' ≡ (alone (first_of m'.0), m.1)
  pub terms : (first_of m'.0).terms ≡ (first_of m.0).terms
  pub number : (first_of m'.0).number ≡ (first_of m.0).number
  pub told : tells (first_of m.0).terms (first_of m.0) (first_of m'.0)

abbrev pub no_note : Note
no_note = record { task = 0; op = Leave }

abbrev pub note_of : MOption Note → Note
note_of (some n) = n
note_of none = no_note

-- what is told of the runqueue whose word was stepped on
abbrev pub OfQueue : ℕ → (ℕ → Terms → Share → Share → Type 0) → Terms → Share → Share → Type 0
OfQueue word tells T x y = (r : ℕ) → word ≡ queue_word_at r → tells r T x y

-- what a seat of one pass is told of its step
abbrev pub turns : {S : Type 0} → (Step S → ℕ → Terms → Share → Share → Type 0) → Step S → Sat S → ℕ → Sat S → Type 0
turns tells st m found m' = Turns (tells st found) m m'

-- nothing changes, and all passes of the seat stand together
abbrev pub compares : {S : Type 0} → Step S → Sat S → ℕ → Sat S → Type 0
compares st m found m' = (m' ≡ m) × StandTogether m.0.shares
