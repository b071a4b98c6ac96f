-- What a run gives: reports and readings, over one history.
use Rattle.std.specs.Prelude.{◌≡◌, ◌≢◌, ◌<◌, ◌≤◌, ℕ, List, length, map, slice_get, Some, ⊤}
use Rattle.std.specs.List.{All, Any}
use Rattle.grub_book.specs.Machine.{Machine}
use Rattle.grub_book.specs.Sums.{reading_of}
use Rattle.grub_book.specs.History.{IsLegal, book_of, calls_of, pass_of}
use Rattle.grub_book.specs.declared.op.Op.TheVariants.{Charge}
use Rattle.grub_book.specs.declared.event.Event.{Event}
use Rattle.grub_book.specs.declared.event.Reading.{Reading}
use Rattle.grub_plan.specs.declared.entry.Ask.{Ask}
use Rattle.grub_plan.specs.declared.entry.Ask.TheVariants.{Call}
use Rattle.grub_plan.specs.declared.entry.Answer.{Answer}
use Rattle.grub_plan.specs.declared.entry.Answer.TheVariants.{Busy, Lost}
use Rattle.grub_plan.specs.declared.entry.Entry.{Entry}
use Rattle.grub_plan.specs.declared.entry.Report.{Report}
use Rattle.grub_plan.specs.Asked.{Asked}
use Rattle.grub_plan.specs.Plans.{Line, PlanView}
use Rattle.grub_plan.specs.Answers.{AreAsksOf, IsAnswered, events_told}
use Rattle.grub_workers.specs.Entries.{HeldTask}
use Rattle.grub_workers.specs.Evidence.{IsOvertaken}

abbrev pub entries_of : Report → List Entry
entries_of report = report.entries.items

-- another report than i has an entry on task t that was answered Lost, or by a reply under a claim: its worker held t
pub record HeldElsewhere (reports : List Report) (i t : ℕ) : Type 0 where
  pub number : ℕ
  pub report : Report
  pub there : slice_get reports number ≡ Some report
  pub other : number ≢ i
  pub held : Any (λ (e : Entry). HeldTask t e.ask e.answer) (entries_of report)

-- An ask is given up for a reason alone. It is Busy only where another worker held its task, and Lost only where its op would have changed a sum of its
-- runqueue, and other workers changed that runqueue's reading as often as there are tries in a round.
abbrev pub IsNotVain : Machine → ℕ → List Event → List Report → ℕ → Ask → Answer → Type 0
IsNotVain s tries h reports i (Call t op) Busy = HeldElsewhere reports i t
IsNotVain s tries h reports i (Call t op) Lost = IsOvertaken s tries i t op h
IsNotVain s tries h reports i ask answer = IsAnswered ask answer

-- report i is that of its script in this history
pub record IsReportOf (s : Machine) (tries : ℕ) (h : List Event) (reports : List Report) (i : ℕ) (script : List Line) (entries : List Entry) : Type 0 where
  pub calls : calls_of i h ≡ events_told i entries
  pub asked : Asked i script entries
  pub tasks : AreAsksOf s entries
  pub not_vain : All (λ (e : Entry). IsNotVain s tries h reports i e.ask e.answer) entries

-- One history, which a one-thread book could have made, is behind all reports and the closing readings.
pub record IsRun (plan : PlanView) (tries : ℕ) (reports : List Report) (closing : List Reading) : Type 0 where
  pub history : List Event
  pub legal : IsLegal plan.setup history
  pub numbers : All (λ e. pass_of e < length plan.scripts) history
  pub one_each : length reports ≡ length plan.scripts
  pub each : (i : ℕ) (script : List Line) (report : Report) → slice_get plan.scripts i ≡ Some script → slice_get reports i ≡ Some report → IsReportOf plan.setup tries history reports i script (entries_of report)
  pub one_reading_each : length closing ≡ length plan.scripts
  pub readings : (r : ℕ) (reading : Reading) → slice_get closing r ≡ Some reading → reading ≡ reading_of (book_of plan.setup history) r

-- it is no charge that was lost
abbrev pub IsNoLostCharge : Ask → Answer → Type 0
IsNoLostCharge (Call t (Charge r dt)) Lost = ⊥
IsNoLostCharge ask answer = ⊤

-- each entry of each report is on a task of the plan
abbrev pub AllAsksOf : PlanView → List Report → Type 0
AllAsksOf plan reports = All (λ (report : Report). AreAsksOf plan.setup (entries_of report)) reports

-- each entry of each report is so
abbrev pub EachEntry : (Ask → Answer → Type 0) → List Report → Type 0
EachEntry P reports = All (λ (report : Report). All (λ (e : Entry). P e.ask e.answer) (entries_of report)) reports

-- no other reports and readings than these are what a run of the plan gives, with however many tries, but one at least
abbrev pub IsOnlyRun : PlanView → List Report → List Reading → Type 0
IsOnlyRun plan reports closing = (tries : ℕ) (others : List Report) (last : List Reading) → 1 ≤ tries → IsRun plan tries others last → (map entries_of others ≡ map entries_of reports) × (last ≡ closing)
