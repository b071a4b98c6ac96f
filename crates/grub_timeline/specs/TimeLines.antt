-- What playing the files of a plan on one time line gives.
use Rattle.std.specs.Prelude.{◌≡◌, ℕ, ◌<◌, List, [], ◌∷◌, ◌++◌, length, map, slice_get, Some, nat_eq, if◌then◌else◌}
use Rattle.std.specs.List.{All, FoldsTo, flat_map}
use Rattle.std.specs.List.Sorted.{IsNonDecreasingBy}
use Rattle.grub_book.specs.Machine.{Machine}
use Rattle.grub_book.specs.Sums.{reading_of}
use Rattle.grub_book.specs.History.{IsLegal, book_of}
use Rattle.grub_book.specs.declared.event.Event.{Event}
use Rattle.grub_book.specs.declared.event.Reading.{Reading}
use Rattle.grub_book.specs.declared.op.Op.TheVariants.{Block, Timer}
use Rattle.grub_book.specs.declared.reply.Reply.TheVariants.{Waiting}
use Rattle.grub_plan.specs.declared.entry.Ask.{Ask}
use Rattle.grub_plan.specs.declared.entry.Ask.TheVariants.{Call}
use Rattle.grub_plan.specs.declared.entry.Answer.{Answer}
use Rattle.grub_plan.specs.declared.entry.Answer.TheVariants.{Replied}
use Rattle.grub_plan.specs.declared.entry.Entry.{Entry}
use Rattle.grub_plan.specs.Plans.{Line, PlanView, IsAskOf}
use Rattle.grub_plan.specs.Answers.{IsAnswered, event_told, events_told}
use Rattle.grub_plan.specs.Asked.{Asked, AsksLine}
use Rattle.grub_timeline.specs.declared.order.PlacedLine.{PlacedLine}
use Rattle.grub_timeline.specs.declared.told.ToldEntry.{ToldEntry}
use Rattle.grub_timeline.specs.Order.{IsOrder}

abbrev pub entries_of : List ToldEntry → List Entry
entries_of told = map (λ (x : ToldEntry). x.entry) told

-- the history that the entries tell: each call and reading under the number of its runqueue
abbrev pub history_of : List ToldEntry → List Event
history_of told = flat_map (λ (x : ToldEntry). event_told x.runqueue x.entry.ask x.entry.answer) told

-- ---- whose timer it is
-- the runqueue that armed the timer of task t last, after an entry
abbrev pub armer_after : ℕ → ℕ → Ask → Answer → ℕ
armer_after t r (Call u (Block q m)) (Replied (Waiting ticket z)) = if nat_eq t u then q else r
armer_after t r ask answer = r

abbrev pub armer_from : ℕ → ℕ → List Entry → ℕ
armer_from t r [] = r
armer_from t r (e ∷ es) = armer_from t (armer_after t r e.ask e.answer) es

-- the runqueue of the last block of task t that waits
abbrev pub armer : List Entry → ℕ → ℕ
armer entries t = armer_from t 0 entries

-- the runqueue that an ask is of, during a line of runqueue r: a timer is of the runqueue whose block armed it
abbrev pub asker : ℕ → List Entry → Ask → ℕ
asker r before (Call t (Timer ticket z)) = armer before t
asker r before ask = r

-- each of these entries, which follow those before, is of the runqueue that it should be of
abbrev pub AreOf : ℕ → List ToldEntry → List ToldEntry → Type 0
AreOf r before [] = Unit {0}
AreOf r before (x ∷ more) = (x.runqueue ≡ asker r (entries_of before) x.entry.ask) × AreOf r (before ++ x ∷ []) more

-- ---- what is asked
-- A line asks what it asks in a script of its own runqueue, with the timers of all runqueues.
pub record AsksPlaced (before : List ToldEntry) (p : PlacedLine) (after : List ToldEntry) : Type 0 where
  pub asked : AsksLine p.runqueue (entries_of before) p.line (entries_of after)
  pub more : List ToldEntry
  pub list : after ≡ before ++ more
  pub runqueues : AreOf p.runqueue before more

-- the entries are those of the lines, in this order, and nothing else
abbrev pub AskedInOrder : List PlacedLine → List ToldEntry → Type 0
AskedInOrder order told = FoldsTo AsksPlaced [] order told

-- each was answered by a reply or a reading
abbrev pub AreAnswered : List ToldEntry → Type 0
AreAnswered told = All (λ (x : ToldEntry). IsAnswered x.entry.ask x.entry.answer) told

-- a reading for each runqueue, in the book after this history
pub record AreClosing (s : Machine) (history : List Event) (closing : List Reading) : Type 0 where
  pub one_each : length closing ≡ length s.queues
  pub readings : (r : ℕ) (reading : Reading) → slice_get closing r ≡ Some reading → reading ≡ reading_of (book_of s history) r

-- The lines of all files were asked in the order of their moments, and each ask was answered by one book, whose history and closing readings these are.
pub record IsTimeLine (plan : PlanView) (told : List ToldEntry) (closing : List Reading) : Type 0 where
  pub order : List PlacedLine
  pub sorted : IsOrder plan.scripts order
  pub asked : AskedInOrder order told
  pub answered : AreAnswered told
  pub legal : IsLegal plan.setup (history_of told)
  pub closes : AreClosing plan.setup (history_of told) closing

-- the moments of the entries do not go back
abbrev pub DoNotGoBack : List ToldEntry → Type 0
DoNotGoBack told = IsNonDecreasingBy (λ (e : Entry). e.m) (entries_of told)

-- each entry is of a runqueue that is there, and on a task that is
abbrev pub AreWithin : Machine → List ToldEntry → Type 0
AreWithin s told = All (λ (x : ToldEntry). (x.runqueue < length s.queues) × IsAskOf (length s.tasks) x.entry.ask) told

-- what playing is to its callers: the plan, the entries so far, the latest of them and how many those are at most, and how many lines are left
pub record PlayState : Type 0 where
  pub plan : PlanView
  pub told : List ToldEntry
  pub chunk : List ToldEntry
  pub most : ℕ
  pub left : ℕ

-- no other entries and readings than these are the time line of the plan
pub record IsOnlyTimeLine (plan : PlanView) (told : List ToldEntry) (closing : List Reading) : Type 0 where
  pub no_other : (others : List ToldEntry) (last : List Reading) → IsTimeLine plan others last → (others ≡ told) × (last ≡ closing)

-- These are the entries that a script of runqueue 0 asks for, in a history of the one-thread book, and no others that were each answered are: those of a run of
-- the file alone, in which no ask is given up.
pub record IsOneRun (s : Machine) (script : List Line) (told : List ToldEntry) : Type 0 where
  pub asked : Asked 0 script (entries_of told)
  pub history : history_of told ≡ events_told 0 (entries_of told)
  pub only : (entries : List Entry) → Asked 0 script entries → All (λ (e : Entry). IsAnswered e.ask e.answer) entries → IsLegal s (events_told 0 entries) → entries ≡ entries_of told
