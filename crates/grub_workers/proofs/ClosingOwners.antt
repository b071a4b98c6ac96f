-- What the closing of the table ties together: whose each event and each mark is.
use Rattle.std.proofs.Common.{◌≡◌, ◌≢◌, ℕ, ◌+◌, ◌<◌, cond, Bool, true, false, IsTrue, ◌==◌, List, [], ◌∷◌, ◌++◌, length, take, drop, get_or, refl, sym, ap, ◌∙◌, subst, ⊎_elim, arith, append-nil, eq-eqb, Some}
use Rattle.std.specs.Prelude.{slice_get}
use Rattle.std.specs.List.{All}
use Rattle.std.proofs.lemmas.List.{drop_more, take-append-drop}
use Rattle.std.proofs.lemmas.List.Elements.{All-weaker}
use Rattle.std.proofs.lemmas.Option.{get_or_from_slice_get, slice_get-get_or, slice_get_within}
use Rattle.grub_book.specs.Machine.{Machine}
use Rattle.grub_book.specs.Step.{is_under_claim}
use Rattle.grub_book.specs.Sums.{reading_of}
use Rattle.grub_book.specs.History.{IsLegal, book_of, calls_of, pass_of}
use Rattle.grub_book.specs.declared.op.Op.{Op}
use Rattle.grub_book.specs.declared.reply.Reply.{Reply}
use Rattle.grub_book.specs.declared.reply.Reply.TheVariants.{Full}
use Rattle.grub_book.specs.declared.event.Event.{Event}
use Rattle.grub_book.specs.declared.event.Event.TheVariants as events
use Rattle.grub_book.specs.declared.event.Reading.{Reading}
use Rattle.grub_table.specs.declared.view.Mark.{Mark}
use Rattle.grub_table.specs.declared.view.Mark.TheVariants.{Taken, Given}
use Rattle.grub_table.specs.declared.pass.Pass.{Pass}
use Rattle.grub_table.specs.declared.shared.Shared.{Shared}
use Rattle.grub_table.specs.Marks.{AreLawful, IsLawfulMark, marker_of}
use Rattle.grub_table.specs.Calls.{IsClosed, IsPassOf, number_of, marks, seen}
use Rattle.grub_plan.specs.declared.entry.Ask.{Ask}
use Rattle.grub_plan.specs.declared.entry.Ask.TheVariants.{Call, Read}
use Rattle.grub_plan.specs.declared.entry.Answer.{Answer}
use Rattle.grub_plan.specs.declared.entry.Answer.TheVariants.{Replied, Seen, Busy, Lost}
use Rattle.grub_plan.specs.declared.entry.Entry.{Entry}
use Rattle.grub_plan.specs.declared.entry.Report.{Report}
use Rattle.grub_plan.specs.Plans.{Line, PlanView, script_at}
use Rattle.grub_plan.specs.Answers.{event_told, events_told}
use Rattle.grub_workers.specs.Entries.{HeldTask}
use Rattle.grub_workers.specs.inside.Entries.{mark_told, marks_of, marks_told}
use Rattle.grub_workers.specs.inside.Evidence.{AreBacked, CallsElse, IsBacked, ShowsHolder, TakesElse}
use Rattle.grub_workers.specs.inside.Working.{machine}
use Rattle.grub_workers.specs.inside.Handles.{AllWorked}
use Rattle.grub_workers.specs.Runs.{HeldElsewhere, IsNotVain, IsReportOf, IsRun, entries_of}
use Rattle.grub_workers.proofs.Elements.{Somewhere, any_of, found, somewhere_of, somewhere_filter, somewhere_flat, somewhere_weaker}
use Rattle.grub_workers.proofs.KnowingMore.{all_backed_later}
use Rattle.grub_workers.proofs.ListsGoneThrough.{some_of}

-- ---- lists
marker_below : (n : ℕ) (before : List Mark) (m : Mark) → IsLawfulMark n before m → marker_of m < n
marker_below n before (Taken i t) lawful = lawful.0
marker_below n before (Given i t) lawful = lawful.0

markers_below : (n : ℕ) (ms : List Mark) → AreLawful n ms → All (λ m. marker_of m < n) ms
markers_below n ms lawful k d low = marker_below n (take k ms) (get_or ms k d) (lawful (take k ms) (drop (k + 1) ms) (get_or ms k d) (sym (take-append-drop k ms) ∙ ap (λ (l : List Mark). take k ms ++ l) (drop_more ms k d low)))

-- ---- from an event or a mark back to an entry
abbrev event_task : Event → ℕ
event_task (events.Call i t op reply) = t
event_task (events.Look i r reading) = 0

abbrev event_reply : Event → Reply
event_reply (events.Call i t op reply) = reply
event_reply (events.Look i r reading) = Full

abbrev mark_task : Mark → ℕ
mark_task (Taken i t) = t
mark_task (Given i t) = t

held_by_call : (i j t u : ℕ) (op : Op) (reply : Reply) → u ≡ t → IsTrue (is_under_claim reply) → (ask : Ask) (answer : Answer) → Somewhere (λ e. e ≡ events.Call j u op reply) (event_told i ask answer) → HeldTask t ask answer
held_by_call i j t u op reply same on (Call v o) (Replied r) a = ⊎_elim (λ (is : events.Call i v o r ≡ events.Call j u op reply). (ap event_task is ∙ same, ap is_under_claim (ap event_reply is) ∙ on)) (λ k. absurd k) a
held_by_call i j t u op reply same on (Call v o) (Seen reading) a = absurd a
held_by_call i j t u op reply same on (Call v o) Busy a = absurd a
held_by_call i j t u op reply same on (Call v o) Lost a = absurd a
held_by_call i j t u op reply same on Read (Seen reading) a = ⊎_elim (λ (is : events.Look i i reading ≡ events.Call j u op reply). absurd (cc)) (λ k. absurd k) a
held_by_call i j t u op reply same on Read (Replied r) a = absurd a
held_by_call i j t u op reply same on Read Busy a = absurd a
held_by_call i j t u op reply same on Read Lost a = absurd a

taken_by : (i j t u v : ℕ) (b : Bool) → u ≡ t → Somewhere (λ m. m ≡ Taken j u) (cond b (Taken i v ∷ Given i v ∷ []) []) → (v ≡ t) × IsTrue b
taken_by i j t u v true same k = ⊎_elim (λ (is : Taken i v ≡ Taken j u). (ap mark_task is ∙ same, refl)) (λ l. ⊎_elim (λ (is : Given i v ≡ Taken j u). absurd (cc)) (λ z. absurd z) l) k
taken_by i j t u v false same k = absurd k

held_by_mark : (i j t u : ℕ) → u ≡ t → (ask : Ask) (answer : Answer) → Somewhere (λ m. m ≡ Taken j u) (mark_told i ask answer) → HeldTask t ask answer
held_by_mark i j t u same (Call v o) (Replied reply) a = taken_by i j t u v (is_under_claim reply) same a
held_by_mark i j t u same (Call v o) Lost a = (taken_by i j t u v true same a).0
held_by_mark i j t u same ask answer a = absurd a

module _ (s : Shared) (tries : ℕ) (scripts : List (List Line)) (ps : List Pass) (rs : List Report) (all : AllWorked s tries scripts ps rs) where
  pub all_of : All (IsPassOf s) ps
  all_of = λ i d low. (all.each i d (some_of rs i (omega (arith, all.reports_len, all.passes_len, low))) (omega (arith, all.passes_len, low))).told.of

  module _ (last : List Reading) (closed : IsClosed s ps last) (many : s.terms.passes ≡ length scripts) where
    calls_at : (i : ℕ) (r : Report) → i < length scripts → calls_of i closed.history ≡ events_told i (entries_of (get_or rs i r))
    calls_at i r low =
        let there : i < length ps = omega (arith, all.passes_len, low) in
        let d : Pass = some_of ps i there in
        let w = (all.each i d r low).told in
        let k = closed.knows i d there in
        let p : Pass = get_or ps i d in
        subst (λ n. calls_of n closed.history ≡ calls_of n (seen p)) w.number (k.seen.own ∙ append-nil (calls_of (number_of p) (seen p))) ∙ w.calls

    marks_at : (i : ℕ) (r : Report) → i < length scripts → marks_of i closed.marks ≡ marks_told i (entries_of (get_or rs i r))
    marks_at i r low =
        let there : i < length ps = omega (arith, all.passes_len, low) in
        let d : Pass = some_of ps i there in
        let w = (all.each i d r low).told in
        let k = closed.knows i d there in
        let p : Pass = get_or ps i d in
        subst (λ n. marks_of n closed.marks ≡ marks_of n (marks p)) w.number (k.marked.own ∙ append-nil (marks_of (number_of p) (marks p))) ∙ w.own_marks

    backed_at : (i : ℕ) (r : Report) → i < length scripts → AreBacked (machine s) tries i closed.history closed.marks (entries_of (get_or rs i r))
    backed_at i r low =
        let there : i < length ps = omega (arith, all.passes_len, low) in
        let d : Pass = some_of ps i there in
        let k = closed.knows i d there in
        all_backed_later (machine s) tries i (seen (get_or ps i d)) closed.history (marks (get_or ps i d)) closed.marks (entries_of (get_or rs i r)) k.seen.starts k.marked.starts (all.each i d r low).told.backed

    numbers_at : All (λ e. pass_of e < length scripts) closed.history
    numbers_at = subst (λ n. All (λ e. pass_of e < n) closed.history) many closed.is_history.numbers

    -- the report of a worker that held the task
    held_in : (i j t : ℕ) → j ≢ i → j < length scripts → ((r : Report) → Somewhere (λ (e : Entry). HeldTask t e.ask e.answer) (entries_of (get_or rs j r))) → HeldElsewhere rs i t
    held_in i j t ne low held =
        let there : j < length rs = omega (arith, low, all.reports_len) in
        let r : Report = some_of rs j there in record {
          number = j;
          report = get_or rs j r;
          there = slice_get-get_or rs j r there;
          other = ne;
          held = any_of (λ (e : Entry). HeldTask t e.ask e.answer) (entries_of (get_or rs j r)) (held r);
        }

    by_call : (i t : ℕ) (e : Event) → CallsElse i t e → pass_of e < length scripts → Somewhere (λ x. x ≡ e) closed.history → HeldElsewhere rs i t
    by_call i t (events.Look j r reading) is low a = absurd is
    by_call i t (events.Call j u op reply) is low a =
        held_in i j t is.1 low (λ r.
        let own : Somewhere (λ x. x ≡ events.Call j u op reply) (calls_of j closed.history) = somewhere_filter (λ e. pass_of e == j) (events.Call j u op reply) closed.history (eq-eqb j j refl) a in
        let there = subst (Somewhere (λ x. x ≡ events.Call j u op reply)) (calls_at j r low) own in
        somewhere_weaker (λ (e : Entry). Somewhere (λ x. x ≡ events.Call j u op reply) (event_told j e.ask e.answer)) (λ (e : Entry). HeldTask t e.ask e.answer)
        (λ e k. held_by_call j j t u op reply is.0 is.2 e.ask e.answer k) (entries_of (get_or rs j r))
        (somewhere_flat (λ x. x ≡ events.Call j u op reply) (λ (e : Entry). event_told j e.ask e.answer) (entries_of (get_or rs j r)) there))

    by_mark : (i t : ℕ) (m : Mark) → TakesElse i t m → marker_of m < length scripts → Somewhere (λ x. x ≡ m) closed.marks → HeldElsewhere rs i t
    by_mark i t (Given j u) is low a = absurd is
    by_mark i t (Taken j u) is low a =
        held_in i j t is.1 low (λ r.
        let own : Somewhere (λ x. x ≡ Taken j u) (marks_of j closed.marks) = somewhere_filter (λ m. marker_of m == j) (Taken j u) closed.marks (eq-eqb j j refl) a in
        let there = subst (Somewhere (λ x. x ≡ Taken j u)) (marks_at j r low) own in
        somewhere_weaker (λ (e : Entry). Somewhere (λ x. x ≡ Taken j u) (mark_told j e.ask e.answer)) (λ (e : Entry). HeldTask t e.ask e.answer)
        (λ e k. held_by_mark j j t u is.0 e.ask e.answer k) (entries_of (get_or rs j r))
        (somewhere_flat (λ x. x ≡ Taken j u) (λ (e : Entry). mark_told j e.ask e.answer) (entries_of (get_or rs j r)) there))

    held_elsewhere : (i t : ℕ) → ShowsHolder i t closed.history closed.marks → HeldElsewhere rs i t
    held_elsewhere i t a = ⊎_elim
        (λ k. let f = found (CallsElse i t) (λ e. pass_of e < length scripts) closed.history (somewhere_of (CallsElse i t) closed.history k) numbers_at in by_call i t f.element f.is f.also f.inside)
        (λ k. let f = found (TakesElse i t) (λ m. marker_of m < length scripts) closed.marks (somewhere_of (TakesElse i t) closed.marks k)
        (markers_below (length scripts) closed.marks (subst (λ n. AreLawful n closed.marks) many closed.lawful)) in by_mark i t f.element f.is f.also f.inside)
        a

    not_vain : (i : ℕ) (ask : Ask) (answer : Answer) → IsBacked (machine s) tries i closed.history closed.marks ask answer → IsNotVain (machine s) tries closed.history rs i ask answer
    not_vain i (Call t op) Busy b = held_elsewhere i t b
    not_vain i (Call t op) Lost b = b
    not_vain i (Call t op) (Replied reply) b = tt
    not_vain i (Call t op) (Seen reading) b = absurd b
    not_vain i Read (Seen reading) b = tt
    not_vain i Read (Replied reply) b = absurd b
    not_vain i Read Busy b = absurd b
    not_vain i Read Lost b = absurd b

    report_at : (i : ℕ) (r : Report) → i < length scripts → IsReportOf (machine s) tries closed.history rs i (script_at scripts i) (entries_of (get_or rs i r))
    report_at i r low = record {
      calls = calls_at i r low;
      asked = (all.each i (some_of ps i (omega (arith, all.passes_len, low))) r low).asked;
      tasks = (all.each i (some_of ps i (omega (arith, all.passes_len, low))) r low).told.tasks;
      not_vain = All-weaker (λ (e : Entry). IsBacked (machine s) tries i closed.history closed.marks e.ask e.answer) (λ (e : Entry). IsNotVain (machine s) tries closed.history rs i e.ask e.answer)
          (λ e b. not_vain i e.ask e.answer b) (entries_of (get_or rs i r)) (backed_at i r low);
    }

    pub run_of : (plan : PlanView) → plan.scripts ≡ scripts → plan.setup ≡ machine s → length scripts ≡ length (machine s).queues → IsRun plan tries rs last
    run_of plan same setup queues =
        let legal : IsLegal plan.setup closed.history = subst (λ k. IsLegal k closed.history) (sym setup) closed.is_history.legal in record {
          history = closed.history;
          legal = legal;
          numbers = subst (λ l. All (λ e. pass_of e < length l) closed.history) (sym same) numbers_at;
          one_each = all.reports_len ∙ sym (ap length same);
          each = λ i script report at there.
              let here : slice_get scripts i ≡ Some script = subst (λ l. slice_get l i ≡ Some script) same at in
              let low = slice_get_within scripts i script here in
              let is_script : script_at scripts i ≡ script = get_or_from_slice_get scripts i script [] here in
              let is_report : get_or rs i report ≡ report = get_or_from_slice_get rs i report report there in
              subst (λ (k : Machine × List Line × Report). IsReportOf k.0 tries closed.history rs i k.1 (entries_of k.2)) (λ j. (sym setup j, is_script j, is_report j)) (report_at i report low);
          one_reading_each = closed.readings.one_each ∙ sym queues ∙ sym (ap length same);
          readings = λ r reading there.
              let low : r < length (machine s).queues = omega (arith, slice_get_within last r reading there, closed.readings.one_each) in
              sym (get_or_from_slice_get last r reading reading there) ∙ closed.readings.value r reading low ∙ ap (λ k. reading_of (book_of k closed.history) r) (sym setup);
        }
