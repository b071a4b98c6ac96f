-- A step of one pass, whose share is x: how the rule goes on where words, tasks, events and marks change.
use Rattle.std.proofs.Common.{◌≡◌, ◌≢◌, ℕ, ◌<◌, List, [], ◌∷◌, ◌++◌, length, set, get_or, sym, refl, ap, ◌∙◌, subst, arith}
use mathlib.Core.Logic.{dite}
use mathlib.Core.Option.{some}
use native.Mathlib.Decide.{ℕ_discrete}
use lib.ListN.{get_elem?}
use Rattle.std.proofs.lemmas.List.{get_or-set_same, get_or-set_other}
use mathlib.Core.List.{IsPrefix}
use Rattle.atomic_table.specs.Table.{State, keeps, stepped}
use Rattle.grub_book.specs.Machine.{Machine}
use Rattle.grub_book.specs.Op.{IsOp}
use Rattle.grub_book.specs.Sums.{Records, record_at}
use Rattle.grub_book.specs.History.{IsTrueOf, book_of}
use Rattle.grub_book.specs.Sound.{IsSound}
use Rattle.grub_book.specs.Step.{step}
use Rattle.grub_book.specs.declared.event.Event.{Event}
use Rattle.grub_book.specs.declared.event.Event.TheVariants.{Call}
use Rattle.grub_book.specs.declared.op.Op.{Op}
use Rattle.grub_book.specs.declared.op.Op.TheVariants.{Leave}
use Rattle.grub_book.specs.declared.place.Record.{Record}
use Rattle.grub_book.specs.declared.place.Place.TheVariants.{Gone}
use Rattle.grub_book.specs.declared.reply.Reply.{Reply}
use Rattle.grub_book.proofs.Histories.{book_push, starts_whole, starts_next, starts_after}
use Rattle.grub_table.specs.declared.view.Hold.{Hold}
use Rattle.grub_table.specs.declared.view.Hold.TheVariants.{Free, Undecided, Decided}
use Rattle.grub_table.specs.declared.view.Mark.{Mark}
use Rattle.grub_table.specs.declared.view.Share.{Share}
use Rattle.grub_table.specs.declared.view.Stored.{Stored}
use Rattle.grub_table.specs.declared.view.Terms.{Terms}
use Rattle.grub_table.specs.declared.view.View.{View}
use Rattle.grub_table.specs.Marks.{AreLawful, holder_of, marker_of}
use Rattle.grub_table.specs.inside.Layout.{stored_of}
use Rattle.grub_table.specs.Histories.{IsHistory, record_in}
use Rattle.grub_table.specs.inside.Views.{alone, holding, ShareOf, MarkedBy}
use Rattle.grub_table.specs.inside.Tellings.{Sees, Calls, Adds}
use Rattle.grub_table.specs.inside.Rule.{Known, Held, Marked, holder_in, Grips, grip, IsOnly, Grasps, Written, Kept}
use Rattle.grub_table.proofs.Growths.{goes_none, history_more, finished}
use Rattle.grub_table.proofs.Seats.{known_event, known_seen, held_turn, held_own, each_own, IsMine}
use Rattle.grub_table.proofs.Rows.{same_before}
use Rattle.grub_table.proofs.Moves.{unmoved, since_more, sound}

-- ---- records of a book
abbrev no_record : Record
no_record = record { place = Gone; count = 0; params = record { runtime = 0; period = 0 }; server = record { q = 0; d = 0 } }

pub record_here : (book : Records) (t : ℕ) (y : Record) → t < length book → record_at (set book t y) t ≡ y
record_here book t y lt = get_or-set_same book t y no_record lt

pub record_else : (book : Records) (t u : ℕ) (y : Record) → u ≢ t → record_at (set book t y) u ≡ record_at book u
record_else book t u y other = get_or-set_other book t u y no_record other

-- ---- what a hold names
task_of : Hold → ℕ
task_of Free = 0
task_of (Undecided t op rec) = t
task_of (Decided t before now stored) = t

op_of : Hold → Op
op_of (Undecided t op rec) = op
op_of _ = Leave

before_of : Hold → Record
before_of Free = no_record
before_of (Undecided t op rec) = rec
before_of (Decided t before now stored) = before

now_of : Hold → Record
now_of (Decided t before now stored) = now
now_of _ = no_record

stored_in : Hold → Stored
stored_in (Decided t before now stored) = stored
stored_in _ = stored_of no_record

-- what holds of the call that is held, or that was decided, holds of each that the hold may be read as
pub under : (hold : Hold) (t : ℕ) (op : Op) (rec : Record) (Q : ℕ → Op → Record → Type 0) → hold ≡ Undecided t op rec → Q t op rec → (t' : ℕ) (op' : Op) (rec' : Record) → hold ≡ Undecided t' op' rec' → Q t' op' rec'
unfolding task_of op_of before_of
under hold t op rec Q has q t' op' rec' has' = let e = sym has ∙ has' in
    subst (λ (p : ℕ × Op × Record). Q p.0 p.1 p.2) (λ i. (ap task_of e i, ap op_of e i, ap before_of e i)) q

pub decided_as : (hold : Hold) (t : ℕ) (before now : Record) (stored : Stored) (Q : ℕ → Record → Record → Stored → Type 0) → hold ≡ Decided t before now stored → Q t before now stored
    → (t' : ℕ) (before' now' : Record) (stored' : Stored) → hold ≡ Decided t' before' now' stored' → Q t' before' now' stored'
unfolding task_of before_of now_of stored_in
decided_as hold t before now stored Q has q t' before' now' stored' has' = let e = sym has ∙ has' in
    subst (λ (p : ℕ × Record × Record × Stored). Q p.0 p.1 p.2 p.3) (λ i. (ap task_of e i, ap before_of e i, ap now_of e i, ap stored_in e i)) q

module _ {S : Type 0} (x : Share) (s : State S View) (id : ℕ) (c : List (ℕ × S)) where
  -- a step that makes the word i n, after which this is told of the pass's shares
  abbrev pub Out : ℕ → ℕ → (Terms → Share → Share → Type 0) → Type 0
  Out i n P = (seen : List Event) × (hold : Hold) × (marks : List Mark) × Kept x.terms (stepped s i n id c (alone (holding x seen hold marks)) keeps) × P x.terms x (holding x seen hold marks)

  module _ (k : Kept x.terms s) (at : get_elem? s.views id ≡ some (alone x)) where
    abbrev pub machine : Machine
    machine = x.terms.setup

    abbrev pub book : Records
    book = book_of machine k.history

    pub own : ShareOf x.terms k.history x
    own = (k.known id (alone x) at).0.0.0

    pub grasp : Grasps x.terms k.grips book x.number x.hold
    grasp = (k.held id (alone x) at).0

    pub marked : MarkedBy k.marks x
    marked = (k.marked id (alone x) at).0

    pub is_sound : IsSound machine book
    is_sound = sound x.terms k.history k.limited k.is_history

    pub in_book : (t : ℕ) → t < length machine.tasks → t < length book
    in_book t lt = let one = is_sound.one_each in omega (arith, one, lt)

    -- ---- what is told
    pub seen_told : Sees x.terms x (holding x k.history x.hold k.marks)
    seen_told = (k.is_history, own.seen)

    pub marks_told : Adds x.terms x [] (holding x k.history x.hold k.marks)
    marks_told = (k.lawful, marked)

    pub history_called : (t : ℕ) (op : Op) (reply : Reply) → t < length machine.tasks → IsOp machine op → (step machine book t op).1 ≡ reply → IsHistory x.terms (k.history ++ Call x.number t op reply ∷ [])
    history_called t op reply lt fits is =
        let so : IsTrueOf machine book (Call x.number t op reply) = (lt, fits, is) in
        history_more x.terms k.history (Call x.number t op reply) k.is_history so own.number

    pub call_told : (t : ℕ) (op : Op) (reply : Reply) (hold : Hold) (marks : List Mark) → t < length machine.tasks → IsOp machine op → (step machine book t op).1 ≡ reply
        → Calls x.terms x t op reply (holding x (k.history ++ Call x.number t op reply ∷ []) hold marks)
    call_told t op reply hold marks lt fits is = finished x.terms k.history x (Call x.number t op reply) (history_called t op reply lt fits is) own refl

    -- ---- no word and no grip changes
    pub same_marks : (seen : List Event) (hold : Hold) → MarkedBy k.marks (holding x seen hold x.marks)
    same_marks seen hold = marked

    pub all_marks : (seen : List Event) (hold : Hold) → MarkedBy k.marks (holding x seen hold k.marks)
    all_marks seen hold = goes_none marker_of x.number k.marks

    pub stays : (i : ℕ) (h seen : List Event) (hold : Hold) (marks : List Mark) → IsPrefix k.history h → IsHistory x.terms h → Known x.terms h k.owner (set s.views id (alone (holding x seen hold marks))) → book_of machine h ≡ book
        → Grasps x.terms k.grips book x.number hold → MarkedBy k.marks (holding x seen hold marks) → Kept x.terms (stepped s i (get_or s.words i 0) id c (alone (holding x seen hold marks)) keeps)
    stays i h seen hold marks more is known same new told = unmoved x.terms s i id c (alone (holding x seen hold marks)) h k more is known
        (subst (λ b. Held x.terms k.grips b (set s.views id (alone (holding x seen hold marks)))) (sym same) (held_own x.terms k.grips book s.views id x seen hold marks k.held new))
        (subst (λ b. Written x.terms b k.grips s.words) (sym same) k.written) (each_own (MarkedBy k.marks) s.views id (holding x seen hold marks) k.marked told)

    -- the history is seen
    pub stays_seen : (i : ℕ) → Kept x.terms (stepped s i (get_or s.words i 0) id c (alone (holding x k.history x.hold x.marks)) keeps)
    stays_seen i = stays i k.history k.history x.hold x.marks (starts_whole k.history) k.is_history (known_seen x.terms k.history k.owner s.views id x x.hold x.marks k.known at) refl grasp (same_marks k.history x.hold)

    -- the history and the marks are seen
    pub stays_all : (i : ℕ) → Kept x.terms (stepped s i (get_or s.words i 0) id c (alone (holding x k.history x.hold k.marks)) keeps)
    stays_all i = stays i k.history k.history x.hold k.marks (starts_whole k.history) k.is_history (known_seen x.terms k.history k.owner s.views id x x.hold k.marks k.known at) refl grasp (all_marks k.history x.hold)

    -- an event that leaves the book, and the marks are seen
    pub stays_called : (i t : ℕ) (op : Op) (reply : Reply) → t < length machine.tasks → IsOp machine op → step machine book t op ≡ (book, reply)
        → Kept x.terms (stepped s i (get_or s.words i 0) id c (alone (holding x (k.history ++ Call x.number t op reply ∷ []) x.hold k.marks)) keeps)
    stays_called i t op reply lt fits is =
        let e : Event = Call x.number t op reply in
        let h : List Event = k.history ++ e ∷ [] in
        stays i h h x.hold k.marks (starts_next k.history e) (history_called t op reply lt fits (ap (λ p. p.1) is)) (known_event x.terms k.history k.owner s.views id x e x.hold k.marks k.known at refl)
        (book_push machine k.history e ∙ ap (λ p. p.0) is) grasp (all_marks h x.hold)

    -- ---- one word changes, and what is known of one task
    pub turned : (j n t : ℕ) (h seen : List Event) (grips : Grips) (hold : Hold) (ms marks : List Mark) → IsPrefix k.history h → IsHistory x.terms h → Known x.terms h k.owner (set s.views id (alone (holding x seen hold marks)))
        → IsMine x.number (k.grips t) → IsMine x.number (grips t) → ((u : ℕ) → u ≢ t → grips u ≡ k.grips u) → ((u : ℕ) → u ≢ t → record_at (book_of machine h) u ≡ record_at book u)
        → Grasps x.terms grips (book_of machine h) x.number hold → Written x.terms (book_of machine h) grips (set s.words j n)
        → AreLawful x.terms.passes ms → ((u : ℕ) → holder_of ms u ≡ holder_in (grips u)) → Marked ms (set s.views id (alone (holding x seen hold marks)))
        → ((i : ℕ) (before : Record) (stored : Stored) → grips t ≡ grip i before stored → (a : List Event) × IsPrefix a h × (record_in x.terms a t ≡ before)) → Kept x.terms (stepped s j n id c (alone (holding x seen hold marks)) keeps)
    turned j n t h seen grips hold ms marks more is known mine mine' else records new written lawful tied known_marks since = record {
      history = h;
      owner = k.owner;
      grips = grips;
      marks = ms;
      limited = k.limited;
      is_history = is;
      known = known;
      held = held_turn x.terms k.history k.owner k.grips grips book (book_of machine h) s.views id x t seen hold marks k.known k.held at mine mine' else records new;
      written = written;
      lawful = lawful;
      tied = tied;
      marked = known_marks;
      since = λ u i before stored was. dite (ℕ_discrete u t)
          (λ same. subst (λ v. (a : List Event) × IsPrefix a h × (record_in x.terms a v ≡ before)) (sym same) (since i before stored (ap grips (sym same) ∙ was)))
          (λ other. since_more x.terms k.history h k.grips more k.since u i before stored (sym (else u other) ∙ was));
    }

    -- the same, where the task stays with the pass and no mark is added
    pub turned_held : (j n t : ℕ) (h seen : List Event) (grips : Grips) (hold : Hold) (before : Record) (was now : Stored) → IsPrefix k.history h → IsHistory x.terms h → Known x.terms h k.owner (set s.views id (alone (holding x seen hold x.marks)))
        → k.grips t ≡ grip x.number before was → grips t ≡ grip x.number before now → ((u : ℕ) → u ≢ t → grips u ≡ k.grips u) → ((u : ℕ) → u ≢ t → record_at (book_of machine h) u ≡ record_at book u)
        → Grasps x.terms grips (book_of machine h) x.number hold → Written x.terms (book_of machine h) grips (set s.words j n) → Kept x.terms (stepped s j n id c (alone (holding x seen hold x.marks)) keeps)
    turned_held j n t h seen grips hold before was now more is known old new else records grasps written =
        turned j n t h seen grips hold k.marks x.marks more is known (subst (IsMine x.number) (sym old) refl) (subst (IsMine x.number) (sym new) refl) else records grasps written k.lawful
        (λ u. dite (ℕ_discrete u t)
        (λ same. k.tied u ∙ ap holder_in (ap k.grips same ∙ old) ∙ sym (ap holder_in (ap grips same ∙ new)))
        (λ other. k.tied u ∙ ap holder_in (sym (else u other))))
        (each_own (MarkedBy k.marks) s.views id (holding x seen hold x.marks) k.marked (same_marks seen hold))
        (λ i b m e. let since = k.since t x.number before was old in (since.0, starts_after h k.history since.0 more since.1, since.2 ∙ same_before x.number i before b now m (sym new ∙ e)))

    -- the call of the task that the pass holds is made: its record becomes p.0
    module _ (t : ℕ) (op : Op) (rec : Record) (has : x.hold ≡ Undecided t op rec) where
      pub holds : Grasps x.terms k.grips book x.number (Undecided t op rec)
      holds = subst (Grasps x.terms k.grips book x.number) has grasp

      abbrev pub called : Reply → List Event
      called reply = k.history ++ Call x.number t op reply ∷ []

      module _ (p : Record × Reply) (fits : IsOp machine op) (is : step machine book t op ≡ (set book t p.0, p.1)) where
        pub book_called : book_of machine (called p.1) ≡ set book t p.0
        book_called = book_push machine k.history (Call x.number t op p.1) ∙ ap (λ q. q.0) is

        pub records_called : (u : ℕ) → u ≢ t → record_at (book_of machine (called p.1)) u ≡ record_at book u
        records_called u other = ap (λ b. record_at b u) book_called ∙ record_else book t u p.0 other

        pub decided : (j n : ℕ) (grips : Grips) (stored : Stored) → grips t ≡ grip x.number rec stored → ((u : ℕ) → u ≢ t → grips u ≡ k.grips u) → IsOnly grips x.number t → Written x.terms (set book t p.0) grips (set s.words j n)
            → Kept x.terms (stepped s j n id c (alone (holding x (called p.1) (Decided t rec p.0 stored) x.marks)) keeps)
        decided j n grips stored new else only written =
            let h : List Event = called p.1 in
            let e : Event = Call x.number t op p.1 in
            let d : Hold = Decided t rec p.0 stored in
            turned_held j n t h h grips d rec (stored_of rec) stored (starts_next k.history e) (history_called t op p.1 holds.0 fits (ap (λ q. q.1) is)) (known_event x.terms k.history k.owner s.views id x e d x.marks k.known at refl) holds.1 new else records_called
            (holds.0, new, ap (λ b. record_at b t) book_called ∙ record_here book t p.0 (in_book t holds.0), only)
            (subst (λ b. Written x.terms b grips (set s.words j n)) (sym book_called) written)

        pub decided_told : (stored : Stored) → Calls x.terms x t op p.1 (holding x (called p.1) (Decided t rec p.0 stored) x.marks)
        decided_told stored = call_told t op p.1 (Decided t rec p.0 stored) x.marks holds.0 fits (ap (λ q. q.1) is)
