-- The report of a file that is apart: nothing in it is given up, and it is the one that a book of its own determines.
use Rattle.std.proofs.Common.{◌≡◌, ◌≢◌, ℕ, zero, suc, ◌<◌, ◌≤◌, ◌==◌, cond, Bool, true, false, List, [], ◌∷◌, ◌++◌, length, get_or, map, Some, None, refl, sym, ap, ◌∙◌, subst, ⊎_elim, inl, inr, arith, eq-eqb, append_assoc, append-nil}
use Rattle.std.specs.Prelude.{slice_get, option_map}
use Rattle.std.specs.List.{All}
use Rattle.std.proofs.lemmas.List.{length-map, same_lists}
use Rattle.std.proofs.lemmas.List.Elements.{All-append, All-cons, All-head, All-nil, All-tail}
use Rattle.std.proofs.lemmas.Option.{get_or_from_slice_get, slice_get-get_or, slice_get-map, slice_get_within}
use mathlib.Core.Logic.{dite}
use native.Mathlib.Decide.{ℕ_discrete}
use Rattle.grub_book.specs.Bandwidth.{Reservation}
use Rattle.grub_book.specs.Machine.{Machine}
use Rattle.grub_book.specs.Step.{changes_sum, is_inactive, refused, runqueue_of}
use Rattle.grub_book.specs.Sums.{opening_book, opening_record, reading_of}
use Rattle.grub_book.specs.History.{IsLegal, IsTrueOf, after, book_of, calls_of, pass_of}
use Rattle.grub_book.specs.declared.place.Place.{Place}
use Rattle.grub_book.specs.declared.place.Place.TheVariants.{Away, Gone, On}
use Rattle.grub_book.specs.declared.place.Record.{Record}
use Rattle.grub_book.specs.declared.op.Op.{Op}
use Rattle.grub_book.specs.declared.op.Op.TheVariants as ops
use Rattle.grub_book.specs.declared.event.Event.{Event}
use Rattle.grub_book.specs.declared.event.Event.TheVariants as events
use Rattle.grub_book.specs.declared.event.Reading.{Reading}
use Rattle.grub_book.proofs.Histories.{book_push, legal_first, legal_last}
use Rattle.grub_book.proofs.Totals.{opening_totals}
use Rattle.grub_plan.specs.declared.entry.Ask.{Ask}
use Rattle.grub_plan.specs.declared.entry.Ask.TheVariants.{Call, Read}
use Rattle.grub_plan.specs.declared.entry.Answer.{Answer}
use Rattle.grub_plan.specs.declared.entry.Answer.TheVariants.{Replied, Seen, Busy, Lost}
use Rattle.grub_plan.specs.declared.entry.Entry.{Entry}
use Rattle.grub_plan.specs.declared.entry.Report.{Report}
use Rattle.grub_plan.specs.Asked.{Asked}
use Rattle.grub_plan.specs.Plans.{Line, PlanView, script_at}
use Rattle.grub_plan.specs.Answers.{IsAnswered, event_told, events_told}
use Rattle.grub_workers.specs.Entries.{HeldTask}
use Rattle.grub_workers.specs.Evidence.{IsOvertaken}
use Rattle.grub_workers.specs.Runs.{HeldElsewhere, IsNotVain, IsOnlyRun, IsReportOf, IsRun, entries_of}
use Rattle.grub_workers.specs.Apart.{AllApart, IsAnsweredAt, IsApart, IsOnlyReport, Names}
use Rattle.grub_workers.proofs.Apart.{Agrees, IsAt, IsOneSided, IsSameAt, Splits, reading_after, retune_at, same_get, splits, timer_at}
use Rattle.grub_workers.proofs.Determined.{IsPlain, script_alike}
use Rattle.grub_plan.proofs.Parts.{all_left, all_right}
use Rattle.grub_workers.proofs.OnlyNamed.{IsOwnAsk, NamesAt, script_own}
use Rattle.grub_workers.proofs.Others.{ChangesElse, changed_else, changes_later}
use Rattle.grub_workers.proofs.ListsGoneThrough.{some_of}

-- ---- whose each event of a run is
-- the event tells of a task and a runqueue that its file names
abbrev TellsOwn : PlanView → Event → Type 0
TellsOwn plan (events.Call j t op reply) = Names (script_at plan.scripts j) t × NamesAt (λ q. q ≡ j) op
TellsOwn plan (events.Look j r reading) = r ≡ j

names_else : (i j : ℕ) (op : Op) → j ≢ i → NamesAt (λ q. q ≡ j) op → NamesAt (λ q. q ≢ i) op
names_else i j (ops.Join r m) other is = λ e. other (sym is ∙ e)
names_else i j (ops.Wake r m) other is = λ e. other (sym is ∙ e)
names_else i j (ops.Block r m) other is = λ e. other (sym is ∙ e)
names_else i j (ops.Charge r dt) other is = λ e. other (sym is ∙ e)
names_else i j ops.Leave other is = tt
names_else i j (ops.Timer ticket m) other is = tt
names_else i j (ops.Retune q p) other is = tt
names_else i j ops.Exit other is = tt

one_sided : (plan : PlanView) (i : ℕ) → IsApart plan i → (e : Event) → TellsOwn plan e → IsOneSided i (Names (script_at plan.scripts i)) e
one_sided plan i apart (events.Look j r reading) own = λ is. own ∙ is
one_sided plan i apart (events.Call j t op reply) own = dite (ℕ_discrete j i)
    (λ is. inl (is, subst (λ k. Names (script_at plan.scripts k) t) is own.0, subst (λ k. NamesAt (λ q. q ≡ k) op) is own.1))
    (λ other. inr (other, (λ mine. apart j t other mine own.0), names_else i j op other own.1))

event_own : (plan : PlanView) (j : ℕ) (ask : Ask) (answer : Answer) → IsOwnAsk j (Names (script_at plan.scripts j)) ask → All (TellsOwn plan) (event_told j ask answer)
event_own plan j (Call t op) (Replied reply) own = All-cons (TellsOwn plan) (events.Call j t op reply) [] own (All-nil (TellsOwn plan))
event_own plan j (Call t op) (Seen reading) own = All-nil (TellsOwn plan)
event_own plan j (Call t op) Busy own = All-nil (TellsOwn plan)
event_own plan j (Call t op) Lost own = All-nil (TellsOwn plan)
event_own plan j Read (Seen reading) own = All-cons (TellsOwn plan) (events.Look j j reading) [] refl (All-nil (TellsOwn plan))
event_own plan j Read (Replied reply) own = All-nil (TellsOwn plan)
event_own plan j Read Busy own = All-nil (TellsOwn plan)
event_own plan j Read Lost own = All-nil (TellsOwn plan)

events_own : (plan : PlanView) (j : ℕ) (es : List Entry) → All (λ (e : Entry). IsOwnAsk j (Names (script_at plan.scripts j)) e.ask) es → All (TellsOwn plan) (events_told j es)
events_own plan j [] own = All-nil (TellsOwn plan)
events_own plan j (e ∷ es) own =
    All-append (TellsOwn plan) (event_told j e.ask e.answer) (events_told j es)
    (event_own plan j e.ask e.answer (All-head (λ (k : Entry). IsOwnAsk j (Names (script_at plan.scripts j)) k.ask) e es own))
    (events_own plan j es (All-tail (λ (k : Entry). IsOwnAsk j (Names (script_at plan.scripts j)) k.ask) e es own))

-- what holds of the events of each pass holds of all
of_each_pass : (P : Event → Type 0) (n : ℕ) (h : List Event) → All (λ e. pass_of e < n) h → ((j : ℕ) → j < n → All P (calls_of j h)) → All P h
of_each_pass P n [] below each = All-nil P
of_each_pass P n (e ∷ h) below each =
    All-cons P e h
    (let own : All P (e ∷ calls_of (pass_of e) h) = subst (λ b. All P (cond b (e ∷ calls_of (pass_of e) h) (calls_of (pass_of e) h))) (eq-eqb (pass_of e) (pass_of e) refl) (each (pass_of e) (All-head (λ k. pass_of k < n) e h below)) in
    All-head P e (calls_of (pass_of e) h) own)
    (of_each_pass P n h (All-tail (λ k. pass_of k < n) e h below) (λ j low. without j (pass_of e == j) (each j low)))
  where
    without : (j : ℕ) (b : Bool) → All P (cond b (e ∷ calls_of j h) (calls_of j h)) → All P (calls_of j h)
    without j true all = All-tail P e (calls_of j h) all
    without j false all = all

-- ---- the opening book
opening_at : (Q : ℕ → Type 0) (tasks : List Reservation) (t : ℕ) (d : Record) → IsAt Q d.place → IsAt Q (get_or (map opening_record tasks) t d).place
opening_at Q [] t d is = is
opening_at Q (x ∷ xs) zero d is = tt
opening_at Q (x ∷ xs) (suc t) d is = opening_at Q xs t d is

opening_agrees : (s s' : Machine) (i : ℕ) (Own : ℕ → Type 0) → IsSameAt i Own s s' → Agrees i Own (length s.tasks) (length s'.tasks) (opening_book s) (opening_book s')
opening_agrees s s' i Own like = record {
  long = length-map s.tasks opening_record;
  mine_long = length-map s'.tasks opening_record;
  same = λ t own. same_get (opening_book s') (opening_book s) t _ (slice_get-map opening_record s.tasks t ∙ ap (option_map opening_record) (sym (like.tasks t own)) ∙ sym (slice_get-map opening_record s'.tasks t));
  here = λ t own. opening_at (λ r. r ≡ i) s.tasks t _ tt;
  off = λ t not. opening_at (λ r. r ≢ i) s.tasks t _ tt;
  reading = opening_totals s i ∙ sym (opening_totals s' i);
}

-- the runqueue whose sum an op changes is the one where its task is, or that it names
changes_at : (Q : ℕ → Type 0) (x : Record) (op : Op) → refused x.place x.count op ≡ None → changes_sum x op ≡ true → IsAt Q x.place → NamesAt Q op → Q (runqueue_of x.place op)
changes_at Q x (ops.Join r m) free on at named = named
changes_at Q x (ops.Wake r m) free on at named = named
changes_at Q x (ops.Block r m) free on at named = named
changes_at Q x (ops.Charge r dt) free on at named = named
changes_at Q x ops.Leave free on at named = leave_at x.place free at
  where
    leave_at : (place : Place) → refused place x.count ops.Leave ≡ None → IsAt Q place → Q (runqueue_of place ops.Leave)
    leave_at Away none is = absurd (cc)
    leave_at Gone none is = absurd (cc)
    leave_at (On r state) none is = is
changes_at Q x (ops.Timer ticket m) free on at named = timer_at Q x.place x.count ticket m free at
changes_at Q x (ops.Retune q p) free on at named = retune_at Q x.place q p at on
changes_at Q x ops.Exit free on at named = exit_at x.place on at
  where
    exit_at : (place : Place) → is_inactive place ≡ true → IsAt Q place → Q (runqueue_of place ops.Exit)
    exit_at Away is at' = absurd (cc)
    exit_at Gone is at' = absurd (cc)
    exit_at (On r state) is at' = at'

module _ (plan : PlanView) (tries : ℕ) (rs : List Report) (last : List Reading) (run : IsRun plan tries rs last) where
  report_at : (j : ℕ) (report : Report) → slice_get rs j ≡ Some report → IsReportOf plan.setup tries run.history rs j (script_at plan.scripts j) (entries_of report)
  report_at j report there =
      let within = slice_get_within rs j report there in
      run.each j (script_at plan.scripts j) report (slice_get-get_or plan.scripts j [] (let l = run.one_each in omega (arith, within, l))) there

  asks_own : (j : ℕ) (report : Report) → slice_get rs j ≡ Some report → All (λ (e : Entry). IsOwnAsk j (Names (script_at plan.scripts j)) e.ask) (entries_of report)
  asks_own j report there = script_own j (script_at plan.scripts j) (entries_of report) (report_at j report there).asked

  all_own : All (TellsOwn plan) run.history
  all_own = of_each_pass (TellsOwn plan) (length plan.scripts) run.history run.numbers
      (λ j low.
      let l = run.one_each in
      let here : j < length rs = omega (arith, low, l) in
      let report : Report = get_or rs j (some_of rs j here) in
      let there = slice_get-get_or rs j (some_of rs j here) here in
      subst (All (TellsOwn plan)) (sym (report_at j report there).calls) (events_own plan j (entries_of report) (asks_own j report there)))

  -- ---- a file that is apart
  module _ (i : ℕ) (apart : IsApart plan i) where
    abbrev Own : ℕ → Type 0
    Own = Names (script_at plan.scripts i)

    all_sided : All (IsOneSided i Own) run.history
    all_sided = λ k d low. one_sided plan i apart (get_or run.history k d) (all_own k d low)

    -- beside a book of its own, on these runqueues and tasks
    splits_like : (s : Machine) (like : IsSameAt i Own plan.setup s) (h rest : List Event) → run.history ≡ h ++ rest → Splits plan.setup s i Own like (opening_book plan.setup) (opening_book s) h
    splits_like s like h rest is =
        splits plan.setup s i Own like (opening_book plan.setup) (opening_book s) h (opening_agrees plan.setup s i Own like) (all_left (IsOneSided i Own) h rest (subst (All (IsOneSided i Own)) is all_sided))
        (legal_first plan.setup (opening_book plan.setup) h rest (subst (IsLegal plan.setup) is run.legal))

    itself : IsSameAt i Own plan.setup plan.setup
    itself = record { queue = refl; tasks = λ t own. refl }

    first_splits : (h rest : List Event) → run.history ≡ h ++ rest → Splits plan.setup plan.setup i Own itself (opening_book plan.setup) (opening_book plan.setup) h
    first_splits = splits_like plan.setup itself

    -- no other file's worker held a task of this one
    not_held : (t : ℕ) → Own t → HeldElsewhere rs i t → ⊥
    not_held t own held =
        let e : Entry = held.held.1 in
        let asks : IsOwnAsk held.number (Names (script_at plan.scripts held.number)) e.ask = subst (λ (k : Entry). IsOwnAsk held.number (Names (script_at plan.scripts held.number)) k.ask) held.held.3 (asks_own held.number held.report held.there held.held.0 e held.held.2) in
        go e.ask e.answer asks held.held.4
      where
        go : (ask : Ask) (answer : Answer) → IsOwnAsk held.number (Names (script_at plan.scripts held.number)) ask → HeldTask t ask answer → ⊥
        go (Call u op) (Replied reply) asks is = apart held.number t held.other own (subst (Names (script_at plan.scripts held.number)) is.0 asks.0)
        go (Call u op) Lost asks is = apart held.number t held.other own (subst (Names (script_at plan.scripts held.number)) is asks.0)
        go ask answer asks is = is

    -- no other file's worker changed the reading of its runqueue
    not_changed : ChangesElse plan.setup i i run.history → ⊥
    not_changed c =
        let h : List Event = c.before ++ c.event ∷ [] in
        let whole : run.history ≡ h ++ c.rest = c.stands in
        let sided : All (IsOneSided i Own) h = all_left (IsOneSided i Own) h c.rest (subst (All (IsOneSided i Own)) whole all_sided) in
        let here = All-head (IsOneSided i Own) c.event [] (all_right (IsOneSided i Own) c.before (c.event ∷ []) sided) in
        let legal = legal_first plan.setup (opening_book plan.setup) h c.rest (subst (IsLegal plan.setup) whole run.legal) in
        let first = first_splits c.before (c.event ∷ c.rest) (whole ∙ append_assoc c.before (c.event ∷ []) c.rest) in
        c.changed (sym (ap (λ b. reading_of b i) (book_push plan.setup c.before c.event) ∙ go c.event c.other here (legal_last plan.setup c.before c.event legal) first.agrees))
      where
        go : (e : Event) → pass_of e ≢ i → IsOneSided i Own e → IsTrueOf plan.setup (book_of plan.setup c.before) e → Agrees i Own (length plan.setup.tasks) (length plan.setup.tasks) (book_of plan.setup c.before) (book_of plan.setup (calls_of i c.before))
            → reading_of (after plan.setup (book_of plan.setup c.before) e) i ≡ reading_of (book_of plan.setup c.before) i
        go (events.Look j r reading) other sided is agrees = refl
        go (events.Call j t op reply) other sided is agrees = ⊎_elim
            (λ (own : (j ≡ i) × Own t × NamesAt (λ r. r ≡ i) op). absurd (other own.0))
            (λ (else : (j ≢ i) × ¬ Own t × NamesAt (λ r. r ≢ i) op).
            let low = is.0 in let l = agrees.long in reading_after plan.setup (book_of plan.setup c.before) t op i (omega (arith, low, l)) else.2 (agrees.off t else.1))
            sided

    not_overtaken : (t : ℕ) (op : Op) → 1 ≤ tries → Own t → NamesAt (λ r. r ≡ i) op → IsOvertaken plan.setup tries i t op run.history → ⊥
    not_overtaken t op some own named o =
        let here : IsAt (λ r. r ≡ i) o.x.place = subst (λ (x : Record). IsAt (λ r. r ≡ i) x.place) o.found ((first_splits o.point o.in_history.0 (sym o.in_history.1)).agrees.here t own) in
        let at = changes_at (λ r. r ≡ i) o.x op o.unrefused o.would_change here named in
        let changed = changed_else plan.setup i (runqueue_of o.x.place op) tries o.earlier o.point o.none_own o.changes some in
        not_changed (subst (λ r. ChangesElse plan.setup i r run.history) at (changes_later plan.setup i (runqueue_of o.x.place op) o.point run.history o.in_history changed))

    answered_here : 1 ≤ tries → (ask : Ask) (answer : Answer) → IsOwnAsk i Own ask → IsNotVain plan.setup tries run.history rs i ask answer → IsAnswered ask answer
    answered_here some (Call t op) Busy own v = absurd (not_held t own.0 v)
    answered_here some (Call t op) Lost own v = absurd (not_overtaken t op some own.0 own.1 v)
    answered_here some ask answer own v = v

    pub answered_own : 1 ≤ tries → IsAnsweredAt i rs
    answered_own some report there = λ k d low.
        let e : Entry = get_or (entries_of report) k d in
        answered_here some e.ask e.answer (asks_own i report there k d low) ((report_at i report there).not_vain k d low)

    -- its report, as a book of its own could have given it
    pub plain_own : (s : Machine) → IsSameAt i Own plan.setup s → 1 ≤ tries → (report : Report) → slice_get rs i ≡ Some report → IsPlain i s (entries_of report)
    plain_own s like some report there = record {
      legal = subst (IsLegal s) (report_at i report there).calls (splits_like s like run.history [] (sym (append-nil run.history))).legal;
      answered = answered_own some report there;
    }

    pub reading_own : (s : Machine) → IsSameAt i Own plan.setup s → (report : Report) (reading : Reading) → slice_get rs i ≡ Some report → slice_get last i ≡ Some reading → reading ≡ reading_of (book_of s (events_told i (entries_of report))) i
    reading_own s like report reading there here =
        run.readings i reading here ∙ (splits_like s like run.history [] (sym (append-nil run.history))).agrees.reading ∙ ap (λ h. reading_of (book_of s h) i) (report_at i report there).calls

-- ---- two runs of one file
module _ (i : ℕ) (s : Machine) (script : List Line) where
  -- what a run says of file i, on the runqueues and tasks of s
  record HasOwn (rs : List Report) (last : List Reading) : Type 0 where
    report : Report
    there : slice_get rs i ≡ Some report
    asked : Asked i script (entries_of report)
    plain : IsPlain i s (entries_of report)
    reading : slice_get last i ≡ Some (reading_of (book_of s (events_told i (entries_of report))) i)

  own_alike : (rs others : List Report) (last last' : List Reading) → HasOwn rs last → HasOwn others last' → (slice_get (map entries_of others) i ≡ slice_get (map entries_of rs) i) × (slice_get last' i ≡ slice_get last i)
  own_alike rs others last last' a b =
      let same : entries_of b.report ≡ entries_of a.report = script_alike i s script [] (entries_of b.report) (entries_of a.report) b.asked a.asked b.plain a.plain in
      let entries : (qs : List Report) (q : Report) → slice_get qs i ≡ Some q → slice_get (map entries_of qs) i ≡ Some (entries_of q) = λ qs q at. slice_get-map entries_of qs i ∙ ap (option_map entries_of) at in (
        entries others b.report b.there ∙ ap (λ es. Some es) same ∙ sym (entries rs a.report a.there),
        b.reading ∙ ap (λ es. Some (reading_of (book_of s (events_told i es)) i)) same ∙ sym a.reading,
      )

has_own : (plan : PlanView) (tries : ℕ) (rs : List Report) (last : List Reading) (i : ℕ) (s : Machine) → IsSameAt i (Names (script_at plan.scripts i)) plan.setup s → i < length plan.scripts → IsApart plan i → 1 ≤ tries → IsRun plan tries rs last
    → HasOwn i s (script_at plan.scripts i) rs last
has_own plan tries rs last i s like low apart some run =
    let l = run.one_each in let l' = run.one_reading_each in
    let here : i < length rs = omega (arith, low, l) in
    let here' : i < length last = omega (arith, low, l') in
    let report : Report = get_or rs i (some_of rs i here) in
    let reading : Reading = get_or last i (some_of last i here') in
    let there = slice_get-get_or rs i (some_of rs i here) here in
    let there' = slice_get-get_or last i (some_of last i here') here' in record {
      report = report;
      there = there;
      asked = (report_at plan tries rs last run i report there).asked;
      plain = plain_own plan tries rs last run i apart s like some report there;
      reading = there' ∙ ap (λ k. Some k) (reading_own plan tries rs last run i apart s like report reading there there');
    }

pub only_own : (plan : PlanView) (tries : ℕ) (rs : List Report) (last : List Reading) → 1 ≤ tries → IsRun plan tries rs last → (i : ℕ) → i < length plan.scripts → IsApart plan i → IsOnlyReport plan i rs last
only_own plan tries rs last some run i low apart other tries' others last' like some' run' =
    let at : slice_get other.scripts i ≡ Some (script_at plan.scripts i) = like.script ∙ slice_get-get_or plan.scripts i [] low in
    let low' = slice_get_within other.scripts i (script_at plan.scripts i) at in
    let script : script_at other.scripts i ≡ script_at plan.scripts i = get_or_from_slice_get other.scripts i (script_at plan.scripts i) [] at in
    let back : IsSameAt i (Names (script_at other.scripts i)) other.setup plan.setup = record { queue = sym like.queue; tasks = λ t own. sym (like.tasks t (subst (λ lines. Names lines t) script own)) } in
    own_alike i plan.setup (script_at plan.scripts i) rs others last last' (has_own plan tries rs last i plan.setup (record { queue = refl; tasks = λ t own. refl }) low apart some run)
    (subst (λ lines. HasOwn i plan.setup lines others last') script (has_own other tries' others last' i plan.setup back low' like.apart some' run'))

-- ---- runs of a plan whose files share no task
same_at_each : {X : Type 0} (xs ys : List X) → length xs ≡ length ys → ((i : ℕ) → i < length ys → slice_get xs i ≡ slice_get ys i) → xs ≡ ys
same_at_each xs ys long each = same_lists xs ys long
    (λ i d low. let low' : i < length ys = omega (arith, low, long) in get_or_from_slice_get xs i (get_or ys i d) d (each i low' ∙ slice_get-get_or ys i d low'))

pub whole_own : (plan : PlanView) (tries : ℕ) (rs : List Report) (last : List Reading) → 1 ≤ tries → IsRun plan tries rs last → AllApart plan → IsOnlyRun plan rs last
whole_own plan tries rs last some run apart tries' others last' some' run' =
    let same : (i : ℕ) → i < length plan.scripts → (slice_get (map entries_of others) i ≡ slice_get (map entries_of rs) i) × (slice_get last' i ≡ slice_get last i)
    = λ i low. only_own plan tries rs last some run i low (apart i low) plan tries' others last' (record { script = refl; queue = refl; tasks = λ t named. refl; apart = apart i low }) some' run' in
    let long : length (map entries_of rs) ≡ length plan.scripts = length-map rs entries_of ∙ run.one_each in (
      same_at_each (map entries_of others) (map entries_of rs) (length-map others entries_of ∙ run'.one_each ∙ sym long) (λ i low. (same i (omega (arith, low, long))).0),
      same_at_each last' last (run'.one_reading_each ∙ sym run.one_reading_each) (λ i low. (same i (let l = run.one_reading_each in omega (arith, low, l))).1),
    )
