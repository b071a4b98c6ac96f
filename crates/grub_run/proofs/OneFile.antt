-- A run of one file has the entries of its time line.
use Rattle.std.proofs.Common.{◌≡◌, ℕ, ◌<◌, ◌≤◌, List, [], ◌∷◌, length, suc, refl, sym, ap, ◌∙◌, subst, arith, Some}
use Rattle.std.specs.Prelude.{map, slice_get}
use Rattle.std.specs.List.{All}
use Rattle.std.proofs.lemmas.List.Elements.{All-head, All-tail}
use Rattle.std.proofs.lemmas.Option.{slice_get-get_or}
use Rattle.grub_book.specs.History.{IsLegal, calls_of, pass_of}
use Rattle.grub_book.specs.declared.event.Event.{Event}
use Rattle.grub_book.specs.declared.event.Reading.{Reading}
use Rattle.grub_plan.specs.Limits.{PlanFits}
use Rattle.grub_plan.specs.Plans.{PlanView, script_at}
use Rattle.grub_plan.specs.declared.entry.Entry.{Entry}
use Rattle.grub_plan.specs.declared.entry.Report.{Report}
use Rattle.grub_plan.specs.Answers.{IsAnswered, events_told}
use Rattle.grub_timeline.specs.TimeLines.{AreWithin, IsTimeLine, entries_of as entries_played}
use Rattle.grub_timeline.specs.declared.told.ToldEntry.{ToldEntry}
use Rattle.grub_timeline.proofs.OneFile.{one_run}
use Rattle.grub_workers.specs.Runs.{IsRun, entries_of as entries_reported}
use Rattle.grub_workers.proofs.OneFile.{alone_of_run}

-- all events are those of the only number
calls_all : (h : List Event) → All (λ (e : Event). pass_of e < 1) h → calls_of 0 h ≡ h
calls_all [] all = refl
calls_all (e ∷ h) all =
    let low = All-head (λ (e : Event). pass_of e < 1) e h all in
    let first : pass_of e ≡ 0 = omega (arith, low) in
    let rest = calls_all h (All-tail (λ (e : Event). pass_of e < 1) e h all) in
    rw first (ap (λ (l : List Event). e ∷ l) rest)

pub run_as_played : (plan : PlanView) (told : List ToldEntry) (closing last : List Reading) (tries : ℕ) (reports : List Report)
    → PlanFits plan → length plan.scripts ≡ 1 → IsTimeLine plan told closing → AreWithin plan.setup told → 1 ≤ tries
    → IsRun plan tries reports last → map entries_reported reports ≡ entries_played told ∷ []
run_as_played plan told closing last tries [] fits one line within some run =
    let none : 0 ≡ length plan.scripts = run.one_each in absurd (omega (arith, none, one))
run_as_played plan told closing last tries (x ∷ y ∷ more) fits one line within some run =
    let many : suc (suc (length more)) ≡ length plan.scripts = run.one_each in absurd (omega (arith, many, one))
run_as_played plan told closing last tries (x ∷ []) fits one line within some run =
    let script = script_at plan.scripts 0 in
    let there : slice_get plan.scripts 0 ≡ Some script = slice_get-get_or plan.scripts 0 [] (omega (arith, one)) in
    let report = run.each 0 script x there refl in
    let answered = All-head (λ (r : Report). All (λ (e : Entry). IsAnswered e.ask e.answer) (entries_reported r)) x [] (alone_of_run plan tries (x ∷ []) last one some run) in
    let numbers = subst (λ n. All (λ (e : Event). pass_of e < n) run.history) one run.numbers in
    let events : events_told 0 (entries_reported x) ≡ run.history = sym report.calls ∙ calls_all run.history numbers in
    let legal : IsLegal plan.setup (events_told 0 (entries_reported x)) = subst (IsLegal plan.setup) (sym events) run.legal in
    let alone = one_run plan told closing (sym fits.each ∙ one) one line within in
    ap (λ (es : List Entry). es ∷ []) (alone.only (entries_reported x) report.asked answered legal)
