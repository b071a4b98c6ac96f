-- What a player keeps between two asks.
use Rattle.std.specs.Prelude.{◌≡◌, ℕ, ◌<◌, ◌≤◌, ◌+◌, Some, List, [], ◌∷◌, ◌++◌, length, slice_set, slice_index_or, vec_capacity}
use Rattle.grub_book.specs.Machine.{Machine}
use Rattle.grub_book.specs.Sums.{Records, reading_of}
use Rattle.grub_book.specs.History.{IsLegal, book_of}
use Rattle.grub_book.specs.declared.event.Reading.{Reading}
use Rattle.grub_book.specs.declared.op.Op.{Op}
use Rattle.grub_book.specs.declared.op.Op.TheVariants as ops
use Rattle.grub_book.specs.declared.reply.Reply.TheVariants.{Waiting}
use Rattle.grub_plan.specs.declared.entry.Ask.TheVariants.{Read}
use Rattle.grub_plan.specs.declared.entry.Answer.{Answer}
use Rattle.grub_plan.specs.declared.entry.Answer.TheVariants.{Replied, Seen}
use Rattle.grub_plan.specs.declared.entry.Entry.{Entry}
use Rattle.grub_plan.specs.Plans.{Line, PlanView}
use Rattle.grub_plan.specs.Asked.{Follows, ask_of, entry}
use Rattle.grub_plan.specs.Keeping.{places_of}
use Rattle.grub_plan.specs.inside.Keeping.{IsKept}
use Rattle.grub_timeline.specs.declared.order.PlacedLine.{PlacedLine}
use Rattle.grub_timeline.specs.declared.told.ToldEntry.{ToldEntry}
use Rattle.grub_timeline.specs.declared.player.Player.{Player}
use Rattle.grub_timeline.specs.Order.{IsOrder}
use Rattle.grub_timeline.specs.TimeLines.{AreAnswered, AreOf, AreWithin, AskedInOrder, armer, entries_of, history_of}
use Rattle.grub_timeline.specs.inside.TimeLines.{told_of}

-- the book is the one after the history that the entries tell, which is legal and leaves out none of them
pub record IsKnown (s : Machine) (records : Records) (told : List ToldEntry) : Type 0 where
  pub legal : IsLegal s (history_of told)
  pub book : records ≡ book_of s (history_of told)
  pub answered : AreAnswered told
  pub within : AreWithin s told

abbrev pub IsToldBy : Player → Type 0
IsToldBy p = IsKnown p.book.setup p.book.records p.told.items

-- for each task the runqueue whose block last armed its timer
pub record AreArmers (s : Machine) (entries : List Entry) (armers : List ℕ) : Type 0 where
  pub one_each : length armers ≡ length s.tasks
  pub each : (t d : ℕ) → t < length s.tasks → slice_index_or armers t d ≡ armer entries t
  pub there : (t : ℕ) → armer entries t < length s.queues

-- the latest entries stand behind those before them
abbrev pub IsChunk : Player → Type 0
IsChunk p = p.told.items ≡ p.start.value.items ++ p.chunk.items

-- and the wheel has the timers that they leave, and a place for one more than there are tasks
pub record IsPlaying (p : Player) : Type 0 where
  pub chunk : IsChunk p
  pub places : length p.book.setup.tasks + 1 ≤ places_of p.wheel
  pub told : IsToldBy p
  pub kept : IsKept p.book.setup (entries_of p.told.items) p.wheel.timers
  pub armers : AreArmers p.book.setup (entries_of p.told.items) p.armers.items

-- no `due` of the wheel was later
abbrev pub IsNotPast : ℕ → Player → Type 0
IsNotPast m p = (k : ℕ) → p.wheel.last ≡ Some k → k ≤ m

-- what was asked for is at moment m, and the setup, the entries before the latest ones and the room for these stay
pub record Plays (m : ℕ) (old new : Player) : Type 0 where
  pub playing : IsPlaying new
  pub setup : new.book.setup ≡ old.book.setup
  pub last : new.wheel.last ≡ Some m
  pub start : new.start.value.items ≡ old.start.value.items
  pub room : vec_capacity new.chunk ≡ vec_capacity old.chunk

-- a block that waits is remembered
abbrev pub waits_of : List ℕ → ℕ → ℕ → Answer → List ℕ
waits_of armers t r (Replied (Waiting ticket z)) = slice_set armers t r
waits_of armers t r answer = armers

-- a block on this runqueue, or another op of a line
abbrev pub IsOfBlock : ℕ → Op → Type 0
IsOfBlock r (ops.Block q m) = q ≡ r
IsOfBlock r op = Unit {0}

-- more entries, in a line of runqueue r
pub record GoesOnOf (r : ℕ) (before after : List ToldEntry) : Type 0 where
  pub more : List ToldEntry
  pub list : after ≡ before ++ more
  pub runqueues : AreOf r before more

-- more entries, which are of the same runqueues in whatever line
abbrev pub GoesOnAt : List ToldEntry → List ToldEntry → Type 0
GoesOnAt before after = (r : ℕ) → GoesOnOf r before after

-- the runqueue was read
pub record IsLookedAt (r m : ℕ) (before after : List ToldEntry) : Type 0 where
  pub reading : Reading
  pub list : after ≡ before ++ told_of r m Read (Seen reading) ∷ []

-- the line was asked, and what follows from its answer
pub record IsLineAsked (r : ℕ) (line : Line) (before after : List Entry) : Type 0 where
  pub answer : Answer
  pub asked : List Entry
  pub line_asked : asked ≡ before ++ entry line.m (ask_of r line.m line.act) answer ∷ []
  pub follows : Follows r line.m line.act answer asked after

-- all lines were asked
pub record IsPlayed (plan : PlanView) (p : Player) : Type 0 where
  pub setup : p.book.setup ≡ plan.setup
  pub known : IsToldBy p
  pub order : List PlacedLine
  pub sorted : IsOrder plan.scripts order
  pub asked : AskedInOrder order p.told.items

-- the reading of each runqueue
pub record AreReadings (queues : ℕ) (records : Records) (readings : List Reading) : Type 0 where
  pub one_each : length readings ≡ queues
  pub each : (r : ℕ) (d : Reading) → r < queues → slice_index_or readings r d ≡ reading_of records r
