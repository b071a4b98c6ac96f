-- The rule of the table, which holds between any two steps.
-- There is one history. What each pass has seen is a beginning of it, and it has of each pass just the calls that the pass made.
-- Each runqueue's word is its reading in the book after that history, and a task's three words are its record, but for a task whose holder has decided and not stored yet.
use Rattle.std.specs.Prelude.{◌≡◌, ◌≢◌, ℕ, ◌<◌, true, false, List, [], ◌∷◌, length, slice_index, Option, Some, None}
use Rattle.std.specs.List.{AllByRecursion}
use mathlib.Core.List.{IsPrefix}
use mathlib.Core.Option.{some}
use lib.ListN.{get_elem?}
use Rattle.atomic_table.specs.Table.{State}
use Rattle.grub_book.specs.Machine.{IsMachine}
use Rattle.grub_book.specs.Sums.{Records, record_at, reading_of}
use Rattle.grub_book.specs.History.{book_of}
use Rattle.grub_book.specs.declared.event.Event.{Event}
use Rattle.grub_book.specs.declared.place.Record.{Record}
use Rattle.grub_table.specs.Words.{queue_word}
use Rattle.grub_table.specs.declared.view.Mark.{Mark}
use Rattle.grub_table.specs.declared.view.Stored.{Stored}
use Rattle.grub_table.specs.declared.view.Terms.{Terms}
use Rattle.grub_table.specs.declared.view.Share.{Share}
use Rattle.grub_table.specs.declared.view.Hold.{Hold}
use Rattle.grub_table.specs.declared.view.Hold.TheVariants.{Free, Undecided, Decided}
use Rattle.grub_table.specs.declared.view.View.{View}
use Rattle.grub_table.specs.Marks.{AreLawful, holder_of}
use Rattle.grub_table.specs.Layout.{queue_word_at, task_word_at, shown}
use Rattle.grub_table.specs.inside.Layout.{word_count, server_word_at, params_word_at, stored_of}
use Rattle.grub_table.specs.Histories.{IsHistory, record_in}
use Rattle.grub_table.specs.inside.Views.{ShareOf, MarkedBy}

-- the share stands in the view of the seat that owns its number
abbrev pub Stands : Terms → List Event → (ℕ → ℕ) → ℕ → Share → Type 0
Stands T h owner id x = ShareOf T h x × (owner x.number ≡ id)

-- no two have one number
abbrev pub Apart : List Share → Type 0
Apart [] = Unit {0}
Apart (x ∷ xs) = AllByRecursion (λ (y : Share). y.number ≢ x.number) xs × Apart xs

abbrev pub EachView : (ℕ → List Share → Type 0) → List View → Type 0
EachView P views = (id : ℕ) (v : View) → get_elem? views id ≡ some v → P id v.shares

abbrev pub Known : Terms → List Event → (ℕ → ℕ) → List View → Type 0
Known T h owner views = EachView (λ id xs. AllByRecursion (Stands T h owner id) xs × Apart xs) views

-- whether a task is held: by which pass, the record that its task word shows, and its other words
pub data Grip : Type 0 where
  loose : Grip
  grip : ℕ → Record → Stored → Grip

abbrev pub Grips : Type 0
Grips = ℕ → Grip

-- the words of a task with this record
abbrev pub TaskShows : Grip → Record → ℕ → ℕ → ℕ → Type 0
TaskShows loose x word server params = (word ≡ shown x false) × (server ≡ (stored_of x).server) × (params ≡ (stored_of x).params)
TaskShows (grip i before stored) x word server params = (word ≡ shown before true) × (server ≡ stored.server) × (params ≡ stored.params)

abbrev pub IsOnly : Grips → ℕ → ℕ → Type 0
IsOnly grips i t = (u : ℕ) (before : Record) (stored : Stored) → grips u ≡ grip i before stored → u ≡ t

-- the pass i holds what its share says
abbrev pub Grasps : Terms → Grips → Records → ℕ → Hold → Type 0
Grasps T grips book i Free = (u : ℕ) (before : Record) (stored : Stored) → grips u ≢ grip i before stored
Grasps T grips book i (Undecided t op rec) = (t < length T.setup.tasks) × (grips t ≡ grip i rec (stored_of rec)) × (record_at book t ≡ rec) × IsOnly grips i t
Grasps T grips book i (Decided t before rec stored) = (t < length T.setup.tasks) × (grips t ≡ grip i before stored) × (record_at book t ≡ rec) × IsOnly grips i t

abbrev pub Held : Terms → Grips → Records → List View → Type 0
Held T grips book views = EachView (λ id xs. AllByRecursion (λ (x : Share). Grasps T grips book x.number x.hold) xs) views

pub record Written (T : Terms) (book : Records) (grips : Grips) (words : List ℕ) : Type 0 where
  pub long : length words ≡ word_count T.setup
  pub queues : (r : ℕ) → r < length T.setup.queues → slice_index words (queue_word_at r) ≡ queue_word (reading_of book r)
  pub tasks : (t : ℕ) → t < length T.setup.tasks
      → TaskShows (grips t) (record_at book t) (slice_index words (task_word_at T.setup t)) (slice_index words (server_word_at T.setup t)) (slice_index words (params_word_at T.setup t))

-- the pass that has a task
abbrev pub holder_in : Grip → Option ℕ
holder_in loose = None
holder_in (grip i before stored) = Some i

abbrev pub Marked : List Mark → List View → Type 0
Marked marks views = EachView (λ id xs. AllByRecursion (MarkedBy marks) xs) views

-- the record that a held task's word shows was the task's at some point
abbrev pub Since : Terms → List Event → Grips → Type 0
Since T h grips = (t i : ℕ) (before : Record) (stored : Stored) → grips t ≡ grip i before stored → (a : List Event) × IsPrefix a h × (record_in T a t ≡ before)

pub record Kept (T : Terms) {S : Type 0} (s : State S View) : Type 0 where
  pub history : List Event
  pub owner : ℕ → ℕ
  pub grips : Grips
  pub marks : List Mark
  pub limited : IsMachine T.setup
  pub is_history : IsHistory T history
  pub known : Known T history owner s.views
  pub held : Held T grips (book_of T.setup history) s.views
  pub written : Written T (book_of T.setup history) grips s.words
  pub lawful : AreLawful T.passes marks
  pub tied : (t : ℕ) → holder_of marks t ≡ holder_in (grips t)
  pub marked : Marked marks s.views
  pub since : Since T history grips
