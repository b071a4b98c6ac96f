-- Files whose tasks no other file names: their reports do not depend on the schedule.
use Rattle.std.specs.Prelude.{◌≡◌, ◌≢◌, ◌<◌, ◌≤◌, ℕ, List, Some, length, map, slice_get}
use Rattle.std.specs.List.{All, Any}
use Rattle.grub_book.specs.declared.event.Reading.{Reading}
use Rattle.grub_plan.specs.declared.entry.Entry.{Entry}
use Rattle.grub_plan.specs.declared.entry.Report.{Report}
use Rattle.grub_plan.specs.Plans.{Line, PlanView, named, script_at}
use Rattle.grub_plan.specs.Answers.{IsAnswered}
use Rattle.grub_workers.specs.Runs.{IsOnlyRun, IsRun, entries_of}

-- a line of the script names task t
abbrev pub Names : List Line → ℕ → Type 0
Names script t = Any (λ (line : Line). named line.act ≡ Some t) script

-- no other file names a task that file i names
abbrev pub IsApart : PlanView → ℕ → Type 0
IsApart plan i = (j t : ℕ) → j ≢ i → Names (script_at plan.scripts i) t → ¬ Names (script_at plan.scripts j) t

-- no two files name one task
abbrev pub AllApart : PlanView → Type 0
AllApart plan = (i : ℕ) → i < length plan.scripts → IsApart plan i

-- another plan with the same file i, which is apart there too, the same constants of its runqueue and the same tasks where the file names them
pub record IsLikeAt (i : ℕ) (plan other : PlanView) : Type 0 where
  pub script : slice_get other.scripts i ≡ slice_get plan.scripts i
  pub queue : slice_get other.setup.queues i ≡ slice_get plan.setup.queues i
  pub tasks : (t : ℕ) → Names (script_at plan.scripts i) t → slice_get other.setup.tasks t ≡ slice_get plan.setup.tasks t
  pub apart : IsApart other i

-- each of the report's asks was answered
abbrev pub IsAnsweredAt : ℕ → List Report → Type 0
IsAnsweredAt i reports = (report : Report) → slice_get reports i ≡ Some report → All (λ (e : Entry). IsAnswered e.ask e.answer) (entries_of report)

-- whatever the schedule, the tries (one at least), the other files, their runqueues and their tasks, a run gives no other report i and no other closing reading of its runqueue
abbrev pub IsOnlyReport : PlanView → ℕ → List Report → List Reading → Type 0
IsOnlyReport plan i reports closing =
    (other : PlanView) (tries : ℕ) (others : List Report) (last : List Reading) → IsLikeAt i plan other → 1 ≤ tries → IsRun other tries others last →
    (slice_get (map entries_of others) i ≡ slice_get (map entries_of reports) i) × (slice_get last i ≡ slice_get closing i)

-- A file that is apart has each ask answered, and its report and closing reading are a function of the file, its runqueue and the tasks that it names.
-- Where all files are, the whole outcome is a function of the files.
pub record AreOwn (plan : PlanView) (reports : List Report) (closing : List Reading) : Type 0 where
  pub answered : (i : ℕ) → IsApart plan i → IsAnsweredAt i reports
  pub only : (i : ℕ) → i < length plan.scripts → IsApart plan i → IsOnlyReport plan i reports closing
  pub whole : AllApart plan → IsOnlyRun plan reports closing
