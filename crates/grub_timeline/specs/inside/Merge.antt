-- The lines that come first in what is left of each file.
use Rattle.std.specs.Prelude.{◌≡◌, ◌≢◌, ℕ, ◌+◌, ◌<◌, ◌≤◌, ◌⊎◌, min, nat_lt, Option, Some, None, if◌then◌else◌, List, [], length, slice_get, slice_index_or, take, vec_capacity}
use Rattle.std.specs.List.{AllByRecursion}
use Rattle.std.specs.Option.{IsSomeAnd}
use Rattle.std.specs.Global.{Vec}
use Rattle.grub_book.specs.declared.event.Reading.{Reading}
use Rattle.grub_plan.specs.Limits.{PlanFits}
use Rattle.grub_timeline.specs.declared.order.Lead.{Lead}
use Rattle.grub_timeline.specs.declared.order.PlacedLine.{PlacedLine}
use Rattle.grub_plan.specs.Plans.{Line, PlanView, script_at}
use Rattle.grub_timeline.specs.declared.player.Player.{Player}
use Rattle.grub_timeline.specs.Order.{IsNotLater, IsSorted, lines_of}
use Rattle.grub_timeline.specs.TimeLines.{AskedInOrder}
use Rattle.grub_timeline.specs.inside.Playing.{IsNotPast, IsPlaying}

abbrev pub placed : ℕ → Line → PlacedLine
placed r line = record { runqueue = r; line = line }

-- the first line of a file that is not done
abbrev pub head_at : List (List Line) → List ℕ → ℕ → Option Line
head_at scripts done r = slice_get (script_at scripts r) (slice_index_or done r 0)

-- no file has a line left
abbrev pub NoHead : List (List Line) → List ℕ → Type 0
NoHead scripts done = (r : ℕ) → head_at scripts done r ≡ None

-- of the lines that come first, none is sooner
pub record IsFirst (scripts : List (List Line)) (done : List ℕ) (p : PlacedLine) : Type 0 where
  pub head : head_at scripts done p.runqueue ≡ Some p.line
  pub least : (r : ℕ) (line : Line) → head_at scripts done r ≡ Some line → IsNotLater p (placed r line)

-- a line of file r at moment m comes behind all lines before `until` of the file that leads
abbrev pub IsBehind : Lead → ℕ → ℕ → Type 0
IsBehind lead r m = (lead.until ≤ m) ⊎ ((lead.until ≤ m + 1) × (lead.runqueue < r))

-- so do the lines that are left of all other files
abbrev pub IsAhead : List (List Line) → List ℕ → Lead → Type 0
IsAhead scripts done lead = (r : ℕ) (line : Line) → r ≢ lead.runqueue → head_at scripts done r ≡ Some line → IsBehind lead r line.m

-- and the file that leads has such a line left
abbrev pub IsNext : List (List Line) → List ℕ → Lead → Type 0
IsNext scripts done lead = IsSomeAnd (head_at scripts done lead.runqueue) (λ line. line.m < lead.until)

-- the file leads those below n
pub record IsLeading (scripts : List (List Line)) (done : List ℕ) (n : ℕ) (lead : Lead) : Type 0 where
  pub within : lead.runqueue < n
  pub line : Line
  pub head : head_at scripts done lead.runqueue ≡ Some line
  pub moment : line.m ≡ lead.moment
  pub others : (r : ℕ) → r < n → (line : Line) → r ≢ lead.runqueue → head_at scripts done r ≡ Some line → IsBehind lead r line.m

-- the file that leads those below n, where one of them has a line left
abbrev pub IsLeader : List (List Line) → List ℕ → ℕ → Option Lead → Type 0
IsLeader scripts done n None = (r : ℕ) → r < n → head_at scripts done r ≡ None
IsLeader scripts done n (Some lead) = IsLeading scripts done n lead

-- its first line is one of those that come next
abbrev pub IsBefore : Lead → Type 0
IsBefore lead = lead.moment < lead.until

-- the file that led those before r, or r, by its first line that is not done
abbrev pub leader_of : Option Lead → ℕ → Option Line → Option Lead
leader_of lead r None = lead
leader_of None r (Some line) = Some (record { runqueue = r; moment = line.m; until = 18446744073709551615 })
leader_of (Some lead) r (Some line) =
    if nat_lt line.m lead.moment
    then Some (record { runqueue = r; moment = line.m; until = lead.moment })
    else Some (record lead { until = min lead.until (line.m + 1) })

-- nothing is done of any file
pub record AreNone (files : ℕ) (done : List ℕ) : Type 0 where
  pub one_each : length done ≡ files
  pub none : (r : ℕ) → slice_index_or done r 0 ≡ 0

-- some lines were asked, and each line that is left comes after them
pub record IsMidway (plan : PlanView) (p : Player) (done : List ℕ) : Type 0 where
  pub playing : IsPlaying p
  pub setup : p.book.setup ≡ plan.setup
  pub one_each : length done ≡ length plan.scripts
  pub order : List PlacedLine
  pub sorted : IsSorted order
  pub lines : (r : ℕ) → lines_of r order ≡ take (slice_index_or done r 0) (script_at plan.scripts r)
  pub asked : AskedInOrder order p.told.items
  pub after : (r : ℕ) (line : Line) → head_at plan.scripts done r ≡ Some line → AllByRecursion (λ q. IsNotLater q (placed r line)) order × IsNotPast line.m p

-- the lines so far were asked, and there is room for what the next one asks, and for the closing readings
pub record IsUnderWay (plan : PlanView) (p : Player) (done : List ℕ) (closing : Vec Reading) : Type 0 where
  pub midway : IsMidway plan p done
  pub fits : PlanFits plan
  pub room : length plan.setup.tasks + 3 ≤ vec_capacity p.chunk
  pub closing_empty : closing.items ≡ []
  pub closing_room : length plan.scripts ≤ vec_capacity closing
