-- A run of one file alone.
use Rattle.std.proofs.Common.{◌≡◌, ℕ, ◌<◌, ◌≤◌, List, [], length, get_or, Some, subst, arith}
use Rattle.std.specs.Prelude.{slice_get}
use Rattle.std.proofs.lemmas.List.Elements.{All-weaker}
use Rattle.std.proofs.lemmas.List.{get_or_past}
use Rattle.std.proofs.lemmas.Option.{slice_get-get_or}
use Rattle.grub_book.specs.Machine.{Machine}
use Rattle.grub_book.specs.declared.op.Op.TheVariants.{Charge}
use Rattle.grub_book.specs.declared.event.Event.{Event}
use Rattle.grub_book.specs.declared.event.Reading.{Reading}
use Rattle.grub_plan.specs.declared.entry.Ask.{Ask}
use Rattle.grub_plan.specs.declared.entry.Ask.TheVariants.{Call}
use Rattle.grub_plan.specs.declared.entry.Answer.{Answer}
use Rattle.grub_plan.specs.declared.entry.Answer.TheVariants.{Lost}
use Rattle.grub_plan.specs.declared.entry.Entry.{Entry}
use Rattle.grub_plan.specs.declared.entry.Report.{Report}
use Rattle.grub_plan.specs.Plans.{PlanView, script_at}
use Rattle.grub_plan.specs.Answers.{IsAnswered}
use Rattle.grub_workers.specs.Runs.{AllAsksOf, EachEntry, IsNoLostCharge, IsNotVain, IsOnlyRun, IsRun, entries_of}
use Rattle.grub_workers.specs.Apart.{AllApart, IsApart, Names}
use Rattle.grub_workers.proofs.OwnReports.{answered_own, whole_own}

-- a clause of each report, at each entry of each report
at_each : (plan : PlanView) (tries : ℕ) (rs : List Report) (last : List Reading) (run : IsRun plan tries rs last) (P : Ask → Answer → Type 0)
    → ((i : ℕ) (ask : Ask) (answer : Answer) → i < length plan.scripts → IsNotVain plan.setup tries run.history rs i ask answer → P ask answer) → EachEntry P rs
at_each plan tries rs last run P f k d low =
    let here : k < length plan.scripts = omega (arith, low, run.one_each) in
    let report = run.each k (script_at plan.scripts k) (get_or rs k d) (slice_get-get_or plan.scripts k [] here) (slice_get-get_or rs k d low) in
    All-weaker (λ (e : Entry). IsNotVain plan.setup tries run.history rs k e.ask e.answer) (λ (e : Entry). P e.ask e.answer) (λ e v. f k e.ask e.answer here v) (entries_of (get_or rs k d)) report.not_vain

pub tasks_of_run : (plan : PlanView) (tries : ℕ) (rs : List Report) (last : List Reading) → IsRun plan tries rs last → AllAsksOf plan rs
tasks_of_run plan tries rs last run k d low =
    let here : k < length plan.scripts = omega (arith, low, run.one_each) in
    (run.each k (script_at plan.scripts k) (get_or rs k d) (slice_get-get_or plan.scripts k [] here) (slice_get-get_or rs k d low)).tasks

-- a charge changes no sum, so it is never lost
no_lost_charge : (s : Machine) (tries : ℕ) (h : List Event) (rs : List Report) (i : ℕ) (ask : Ask) (answer : Answer) → IsNotVain s tries h rs i ask answer → IsNoLostCharge ask answer
no_lost_charge s tries h rs i (Call t (Charge r dt)) Lost v = let bad = v.would_change in absurd (cc)
no_lost_charge s tries h rs i ask answer v = tt

pub charges_of_run : (plan : PlanView) (tries : ℕ) (rs : List Report) (last : List Reading) → IsRun plan tries rs last → EachEntry IsNoLostCharge rs
charges_of_run plan tries rs last run = at_each plan tries rs last run IsNoLostCharge (λ i ask answer low v. no_lost_charge plan.setup tries run.history rs i ask answer v)

-- ---- nobody else is there
-- the only file is apart: no other names its tasks
only_apart : (plan : PlanView) → length plan.scripts ≡ 1 → IsApart plan 0
only_apart plan one j t other mine his =
    let past : length plan.scripts ≤ j = omega (arith, one, other) in
    names_nothing t (subst (λ script. Names script t) (get_or_past plan.scripts j [] past) his)
  where
    names_nothing : (t : ℕ) → ¬ Names [] t
    names_nothing t named = let low = named.2 in absurd (omega (arith, low))

all_apart : (plan : PlanView) → length plan.scripts ≡ 1 → AllApart plan
all_apart plan one i low = let first : 0 ≡ i = omega (arith, one, low) in subst (IsApart plan) first (only_apart plan one)

module _ (plan : PlanView) (tries : ℕ) (rs : List Report) (last : List Reading) (one : length plan.scripts ≡ 1) (some : 1 ≤ tries) (run : IsRun plan tries rs last) where
  pub alone_of_run : EachEntry IsAnswered rs
  alone_of_run k d low =
      let l = run.one_each in
      let first : k ≡ 0 = omega (arith, one, low, l) in
      answered_own plan tries rs last run 0 (only_apart plan one) some (get_or rs k d) (subst (λ n. slice_get rs n ≡ Some (get_or rs k d)) first (slice_get-get_or rs k d low))

  pub only_run : IsOnlyRun plan rs last
  only_run = whole_own plan tries rs last some run (all_apart plan one)
