-- A record, line by line: what is kept of it.
use Rattle.std.specs.Prelude.{ℕ, ◌+◌, ◌-◌, ◌^◌, min, Bool, true, false, nat_lt, ◌==◌, if◌then◌else◌, List, [], ◌∷◌, ◌++◌, drop, fold, insert, map, position, Option, Some, None, unwrap_or, slice_get}
use Rattle.trace_data.specs.declared.fixed.Fixed.{Fixed}
use Rattle.trace_data.specs.declared.note.Policy.{Policy}
use Rattle.trace_data.specs.declared.note.Policy.TheVariants as policy
use Rattle.trace_data.specs.declared.quantities.Parameters.{Parameters}
use Rattle.timer_record.specs.declared.event.KeptLine.{KeptLine}
use Rattle.timer_record.specs.declared.lines.AddressLines.{AddressLines}
use Rattle.timer_record.specs.declared.lines.GivenReservation.{GivenReservation}
use Rattle.timer_record.specs.declared.lines.KeptLines.{KeptLines}
use Rattle.timer_record.specs.declared.lines.TaskLines.{TaskLines}
use Rattle.timer_record.specs.declared.lines.TaskNote.{TaskNote}
use Rattle.timer_record.specs.declared.lines.TimerLines.{TimerLines}
use Rattle.timer_record.specs.declared.lines.Unlisted.{Unlisted}
use Rattle.timer_record.specs.declared.moment.Passing.{Passing}
use Rattle.timer_record.specs.declared.moment.TheConstants.{ROUNDING}
use Rattle.timer_record.specs.declared.record.KeptPlace.{KeptPlace}
use Rattle.timer_record.specs.Kept.{Kept, changed, counted, number_in, numbered_in, with_passing, with_task}
use Rattle.timer_record.specs.Passing.{passed_in}
use Rattle.timer_record.specs.Given.{policy_above_of}
use Rattle.timer_record.specs.Moments.{change_of, told_of}

-- an option's reservation for the task of a pid: the task is of the class
unfoldable pub given_in : GivenReservation → Kept → Kept
given_in g k =
    let n = number_in g.pid k in
    with_passing (λ p. record p { is_deadline = true }) n (with_task (λ t. record t { given = Some g.parameters }) n (numbered_in g.pid k))

-- notes by their moments, with one more behind those of the same moment
abbrev pub with_note_at : Option ℕ → TaskNote → List TaskNote → List TaskNote
with_note_at (Some place) n xs = insert xs place n
with_note_at None n xs = xs ++ n ∷ []

unfoldable pub with_note : TaskNote → List TaskNote → List TaskNote
with_note n xs = with_note_at (position (λ x. nat_lt n.moment x.moment) xs) n xs

-- the call is the task's own, where the note says no other
abbrev pub is_own : ℕ → Option ℕ → Bool
is_own pid None = true
is_own pid (Some by) = by == pid

-- a note of a task, before the first line
unfoldable pub noted_in : ℕ → Option ℕ → Option ℕ → ℕ → Policy → Kept → Kept
noted_in pid at by cpu policy k =
    let m = numbered_in pid k in
    record m {
      notes = with_note (record { task = number_in pid k; at = at; moment = unwrap_or at 0; is_by_itself = is_own pid by; cpu = cpu; policy = policy }) m.notes;
    }

abbrev pub is_in_class : Policy → Bool
is_in_class (policy.Deadline parameters) = true
is_in_class policy.Other = false

-- the moment of the kernel's change, by what is known of the note's task
abbrev pub moment_at : Option ℕ → Passing → TaskNote → ℕ
moment_at (Some at) p x = change_of p at x.is_by_itself
moment_at None p x = x.moment

abbrev pub moment_by : Option Passing → TaskNote → ℕ
moment_by (Some p) x = moment_at x.at p x
moment_by None x = x.moment

-- a note comes
unfoldable pub come_in : TaskNote → Kept → Kept
come_in x k = record k {
  passing = changed (λ p. told_of p (is_in_class x.policy) x.moment) x.task k.passing;
  told = with_note (record x { moment = moment_by (slice_get k.passing x.task) x }) k.told;
}

-- the notes of moments before this one, allowing for a moment that was rounded
abbrev pub is_due : ℕ → TaskNote → Bool
is_due at x = nat_lt (min (x.moment + ROUNDING) (2 ^ 64 - 1)) at

abbrev pub come_until : ℕ → List TaskNote → Kept → Kept
come_until at [] k = k
come_until at (x ∷ xs) k = if is_due at x then come_until at xs (come_in x (record k { come = k.come + 1 })) else k

unfoldable pub told_in : ℕ → Kept → Kept
told_in at k = come_until at (drop k.come k.notes) k

-- one more line, of this moment
unfoldable pub begun_in : ℕ → Kept → Kept
begun_in at k = told_in at (record k { begins = Some (unwrap_or k.begins at); ends = at; count = counted k.count })

-- a line of an event: its number, moment and CPU, the pid of the task that runs there, and what it says
pub record EventLine : Type 0 where
  pub line : ℕ
  pub at : ℕ
  pub cpu : ℕ
  pub pid : ℕ
  pub fixed : Fixed

abbrev pub place_of : EventLine → KeptPlace
place_of e = record { line = e.line; at = e.at; cpu = e.cpu; is_idle = e.pid == 0 }

-- what is kept of a record with one more line
unfoldable pub kept_with : EventLine → Kept → Kept
kept_with e k = passed_in (place_of e) e.pid e.fixed (begun_in e.at k)

-- what an option gives to the task of a note stands above it
abbrev pub above_by : Option TaskLines → TaskNote → TaskNote
above_by (Some t) x = record x { policy = policy_above_of x.policy t.given }
above_by None x = x

abbrev pub above_in : List TaskLines → TaskNote → TaskNote
above_in tasks x = above_by (slice_get tasks x.task) x

-- a note that puts a task into the class tells when it is there: the option does not
abbrev pub withdrawn : List TaskLines → TaskNote → List TaskLines
withdrawn tasks x = if is_in_class x.policy then changed (λ t. record t { given = None }) x.task tasks else tasks

-- the lines of a record
pub record Lines : Type 0 where
  pub tasks : List TaskLines
  pub addresses : List AddressLines
  pub timers : List TimerLines
  pub told : List TaskNote
  pub kept : List KeptLine
  pub begins : Option ℕ
  pub ends : ℕ
  pub count : ℕ
  pub boosted : ℕ
  pub unlisted : Option Unlisted

abbrev pub lines_of : KeptLines → Lines
lines_of l = record {
  tasks = l.tasks.items;
  addresses = l.addresses.items;
  timers = l.timers.items;
  told = l.told.items;
  kept = l.kept.items;
  begins = l.begins;
  ends = l.ends;
  count = l.count;
  boosted = l.boosted;
  unlisted = l.unlisted;
}

abbrev pub lines_in : Kept → Lines
lines_in k =
    let told = map (above_in k.tasks) k.told in
    record {
      tasks = fold withdrawn k.tasks told;
      addresses = k.addresses;
      timers = k.timers;
      told = told;
      kept = k.kept;
      begins = k.begins;
      ends = k.ends;
      count = k.count;
      boosted = k.boosted;
      unlisted = k.unlisted;
    }

-- when there are no more lines: all notes come
unfoldable pub ended_in : Kept → Lines
ended_in k = lines_in (told_in (2 ^ 64 - 1) k)
