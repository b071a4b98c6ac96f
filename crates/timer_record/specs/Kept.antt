-- What is kept of a record so far.
use Rattle.std.specs.Prelude.{ℕ, ◌+◌, ◌-◌, ◌^◌, min, Bool, true, false, List, [], ◌∷◌, ◌++◌, length, nat_eq, ◌==◌, if◌then◌else◌, drop, Option, Some, None, unwrap_or, slice_get, slice_set}
use Rattle.std.specs.Map.{update}
use Rattle.std.specs.HashMap.{get}
use Rattle.trace_data.specs.declared.quantities.Parameters.{Parameters}
use Rattle.timer_record.specs.declared.before.Before.{Before}
use Rattle.timer_record.specs.declared.before.Before.TheVariants.{Nothing}
use Rattle.timer_record.specs.declared.event.KeptEvent.{KeptEvent}
use Rattle.timer_record.specs.declared.event.KeptLine.{KeptLine}
use Rattle.timer_record.specs.declared.lines.AddressLines.{AddressLines}
use Rattle.timer_record.specs.declared.lines.TaskLines.{TaskLines}
use Rattle.timer_record.specs.declared.lines.TaskNote.{TaskNote}
use Rattle.timer_record.specs.declared.lines.TimerLines.{TimerLines}
use Rattle.timer_record.specs.declared.lines.Unlisted.{Unlisted}
use Rattle.timer_record.specs.declared.moment.Passing.{Passing}
use Rattle.timer_record.specs.declared.record.KeptPlace.{KeptPlace}
use Rattle.timer_record.specs.declared.record.OpenRecord.{OpenRecord}
use Rattle.timer_record.specs.declared.record.TimerPlace.{TimerPlace}
use Rattle.timer_record.specs.Timers.{unknown_address, unknown_timer}
use Rattle.timer_record.specs.Votes.{no_vote, winner_of}
use Rattle.timer_record.specs.Moments.{is_gone_of, passing_at_first}

-- which lines are wanted; the tasks, and what is known of each; the addresses of timers, and the timers; the numbers of tasks by their
-- pids, and the timer that is at each address now; the first wakes of tasks without a reservation, by their pids; what the last line of each CPU tells; the notes before the
-- first line, and how many came; those that came, by the moment of the change; the lines that are kept; the moments of the first and the
-- last line; how many lines there are, and how many are about a task of the class without a reservation; the first of these with a timer
pub record Kept : Type 0 where
  pub wants_idle : Bool
  pub wants_cancels : Bool
  pub tasks : List TaskLines
  pub passing : List Passing
  pub addresses : List AddressLines
  pub timers : List TimerLines
  pub numbers : ℕ → Option ℕ
  pub places : ℕ → Option TimerPlace
  pub strangers : ℕ → Option ℕ
  pub before : ℕ → Before
  pub notes : List TaskNote
  pub come : ℕ
  pub told : List TaskNote
  pub kept : List KeptLine
  pub begins : Option ℕ
  pub ends : ℕ
  pub count : ℕ
  pub boosted : ℕ
  pub unlisted : Option Unlisted

-- what the last line of a CPU tells
abbrev pub before_in : List Before → ℕ → Before
before_in bs cpu = unwrap_or (slice_get bs cpu) Nothing

abbrev pub kept_of : OpenRecord → Kept
kept_of r = record {
  wants_idle = r.keeps_idle;
  wants_cancels = r.keeps_cancels;
  tasks = r.lines.tasks.items;
  passing = r.passing.items;
  addresses = r.lines.addresses.items;
  timers = r.lines.timers.items;
  numbers = get nat_eq r.pids;
  places = get nat_eq r.addresses;
  strangers = get nat_eq r.strangers;
  before = before_in r.before.items;
  notes = r.notes.items;
  come = r.come;
  told = r.lines.told.items;
  kept = r.lines.kept.items;
  begins = r.lines.begins;
  ends = r.lines.ends;
  count = r.lines.count;
  boosted = r.lines.boosted;
  unlisted = r.lines.unlisted;
}

-- nothing yet
abbrev pub kept_at_first : Bool → Bool → Kept
kept_at_first idle cancels = record {
  wants_idle = idle;
  wants_cancels = cancels;
  tasks = [];
  passing = [];
  addresses = [];
  timers = [];
  numbers = λ pid. None;
  places = λ address. None;
  strangers = λ pid. None;
  before = λ cpu. Nothing;
  notes = [];
  come = 0;
  told = [];
  kept = [];
  begins = None;
  ends = 0;
  count = 0;
  boosted = 0;
  unlisted = None;
}

-- one more, up to the greatest number of 64 bits
abbrev pub counted : ℕ → ℕ
counted n = min (n + 1) (2 ^ 64 - 1)

-- the number of the next of so many, or the greatest one of 32 bits
abbrev pub numbered : ℕ → ℕ
numbered n = min n (2 ^ 32 - 1)

-- one of a list becomes what a rule makes of it
abbrev pub changed_by : {A : Type 0} → Option A → (A → A) → ℕ → List A → List A
changed_by (Some x) f n xs = slice_set xs n (f x)
changed_by None f n xs = xs

abbrev pub changed : {A : Type 0} → (A → A) → ℕ → List A → List A
changed f n xs = changed_by (slice_get xs n) f n xs

abbrev pub with_passing : (Passing → Passing) → ℕ → Kept → Kept
with_passing f n k = record k { passing = changed f n k.passing }

abbrev pub with_timer : (TimerLines → TimerLines) → ℕ → Kept → Kept
with_timer f n k = record k { timers = changed f n k.timers }

abbrev pub with_address : (AddressLines → AddressLines) → ℕ → Kept → Kept
with_address f n k = record k { addresses = changed f n k.addresses }

abbrev pub with_task : (TaskLines → TaskLines) → ℕ → Kept → Kept
with_task f n k = record k { tasks = changed f n k.tasks }

-- the task of a pid has the next number, where it has none
abbrev pub numbered_by : Option ℕ → ℕ → Kept → Kept
numbered_by (Some n) pid k = k
numbered_by None pid k = record k {
  tasks = k.tasks ++ record { pid = pid; given = None; zero_lag_timer = no_vote } ∷ [];
  passing = k.passing ++ passing_at_first ∷ [];
  numbers = update nat_eq k.numbers pid (Some (numbered (length k.tasks)));
}

unfoldable pub numbered_in : ℕ → Kept → Kept
numbered_in pid k = numbered_by (k.numbers pid) pid k

abbrev pub number_in : ℕ → Kept → ℕ
number_in pid k = unwrap_or (k.numbers pid) (numbered (length k.tasks))

-- and so have an address and its first timer
abbrev pub next_place : Kept → TimerPlace
next_place k = record { address = numbered (length k.addresses); timer = numbered (length k.timers) }

abbrev pub placed_by : Option TimerPlace → ℕ → Kept → Kept
placed_by (Some there) address k = k
placed_by None address k = record k {
  addresses = k.addresses ++ unknown_address ∷ [];
  timers = k.timers ++ unknown_timer (numbered (length k.addresses)) ∷ [];
  places = update nat_eq k.places address (Some (next_place k));
}

unfoldable pub placed_in : ℕ → Kept → Kept
placed_in address k = placed_by (k.places address) address k

abbrev pub place_in : ℕ → Kept → TimerPlace
place_in address k = unwrap_or (k.places address) (next_place k)

-- the task that a timer is of, by its starts so far, has ended or left the class
abbrev pub is_gone_by : Option Passing → Bool
is_gone_by (Some p) = is_gone_of p
is_gone_by None = false

abbrev pub is_left_by : Option ℕ → Kept → Bool
is_left_by (Some task) k = is_gone_by (slice_get k.passing task)
is_left_by None k = false

abbrev pub winner_by : Option TimerLines → Option ℕ
winner_by (Some t) = winner_of t.task
winner_by None = None

abbrev pub is_left_at : ℕ → Kept → Bool
is_left_at timer k = is_left_by (winner_by (slice_get k.timers timer)) k

-- an address belongs to the task that last started its timer, until that task has ended or left the class: the next start there is
-- that of another timer
abbrev pub handed_to : TimerPlace → Kept → TimerPlace
handed_to there k = if is_left_at there.timer k then record there { timer = numbered (length k.timers) } else there

abbrev pub handed_by : Bool → ℕ → TimerPlace → Kept → Kept
handed_by true address there k = record k {
  timers = k.timers ++ unknown_timer there.address ∷ [];
  places = update nat_eq k.places address (Some (record there { timer = numbered (length k.timers) }));
}
handed_by false address there k = k

unfoldable pub handed_in : ℕ → TimerPlace → Kept → Kept
handed_in address there k = handed_by (is_left_at there.timer k) address there k

-- what a line tells of the next one on its CPU
abbrev pub with_before : ℕ → Before → (ℕ → Before) → ℕ → Before
with_before cpu b before = λ (q : ℕ). if cpu == q then b else before q

unfoldable pub before_is : ℕ → Before → Kept → Kept
before_is cpu b k = record k { before = with_before cpu b k.before }

-- a line is kept
abbrev pub keeps : KeptPlace → KeptEvent → Kept → Kept
keeps place event k = record k {
  kept = k.kept ++ record { line = place.line; at = place.at; cpu = place.cpu; is_idle = place.is_idle; event = event } ∷ [];
}
