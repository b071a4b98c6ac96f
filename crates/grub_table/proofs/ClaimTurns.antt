-- The steps of a pass that holds a task whose call is undecided are allowed: load-params, load-server, load-queue, change-queue, and settle-server.
use Rattle.std.proofs.Common.{◌≡◌, ◌≢◌, ◌⊎◌, ℕ, ◌+◌, ◌<◌, Bool, true, false, cond, nat_lt, ◌&&◌, List, [], ◌∷◌, ◌++◌, length, set, get_or, sym, refl, ap, ◌∙◌, subst, inl, inr, ⊎_elim, arith, Option, Some, None, eqb, eq-eqb}
use mathlib.Core.Option.{some}
use lib.ListN.{get_elem?}
use lib.Seq.{set-get_or}
use prog.Atomic.{either}
use Rattle.atomic_table.specs.Table.{State}
use Rattle.atomic_table.proofs.Lists.{exchanged}
use Rattle.std.proofs.lemmas.Bool.{ne_eqb, both_ways}
use Rattle.grub_book.specs.Bandwidth.{Capacity, Reservation, IsReservation, bandwidth_of}
use Rattle.grub_book.specs.Machine.{queue_at}
use Rattle.grub_book.specs.Op.{IsOp}
use Rattle.grub_book.specs.Sound.{IsKept}
use Rattle.grub_book.specs.Sums.{Records, record_at, reading_of}
use Rattle.grub_book.proofs.Soundness.{runqueue_there}
use Rattle.grub_book.specs.Step.{early, unless, refused, settled, step, runqueue_of, changes_sum, LooksAtQueue, Refuses, arrived, lag_moment, is_inactive}
use Rattle.grub_book.specs.Totals.{Counts, shifted_of}
use Rattle.grub_book.specs.declared.event.Event.TheVariants.{Call}
use Rattle.grub_book.specs.declared.event.Reading.{Reading}
use Rattle.grub_book.specs.declared.op.Op.{Op}
use Rattle.grub_book.specs.declared.op.Op.TheVariants.{Join, Wake, Block, Leave, Timer, Exit, Charge, Retune}
use Rattle.grub_book.specs.declared.place.State.TheVariants.{Inactive}
use Rattle.grub_book.specs.declared.place.Place.TheVariants.{Gone, On}
use Rattle.grub_book.specs.declared.place.Record.{Record}
use Rattle.grub_book.proofs.Cases.{of_timer}
use Rattle.grub_book.specs.declared.reply.Reply.{Reply}
use Rattle.grub_book.specs.declared.reply.Reply.TheVariants.{Full, Joined, Retired, Retuned}
use Rattle.grub_book.proofs.Refusals.{settling, refused_same}
use Rattle.grub_book.proofs.Readings.{step_unchanged, step_elsewhere}
use Rattle.grub_book.proofs.Tallies.{running_le_this}
use Rattle.grub_book.proofs.Totals.{counts_each, shifted_set}
use Rattle.grub_table.specs.Words.{queue_word, server_word, params_word, QueueFits, ServerFits}
use Rattle.grub_table.proofs.Bounds.{ServerFits-kept}
use Rattle.grub_table.proofs.Halves.{same_queue}
use Rattle.grub_table.specs.declared.shared.Shared.{Shared}
use Rattle.grub_table.specs.declared.seated.Seated.{Seated}
use Rattle.grub_table.specs.declared.view.Hold.{Hold}
use Rattle.grub_table.specs.declared.view.Hold.TheVariants.{Undecided, Decided}
use Rattle.grub_table.specs.declared.view.Share.{Share}
use Rattle.grub_table.specs.declared.view.Stored.{Stored}
use Rattle.grub_table.specs.declared.view.Terms.{Terms}
use Rattle.grub_table.specs.declared.view.View.{View}
use Rattle.grub_table.specs.Layout.{queue_word_at}
use Rattle.grub_table.specs.inside.Layout.{server_word_at, params_word_at, stored_of}
use Rattle.grub_table.specs.Histories.{record_in, reading_in}
use Rattle.grub_table.specs.inside.Views.{alone, holding}
use Rattle.grub_table.specs.inside.Tellings.{is_decided_at_load, settled_quietly, outcome, Sees, Decides, DecidesIf, IsReadingFor, Of, OfQueue, SawParams, SawServer, SawQueueAs, SawQueue, ChangedQueue, SettledServer}
use Rattle.grub_table.specs.inside.Between.{IsAllowed, HoldsFor}
use Rattle.grub_table.specs.Calls.{share_on}
use Rattle.grub_table.specs.inside.Rule.{Grip, Grips, grip, Kept, Written}
use Rattle.grub_table.proofs.Moves.{reading_fits}
use Rattle.grub_table.proofs.Rows.{put, put_here, put_else, only_put, words_of, Shows, shows_held, set_server, written_same, written_queue, written_task}
use Rattle.grub_table.proofs.Allowed.{allowed_at, own_op, own_queue, task_within, queue_within, queue_told}
use Rattle.grub_table.proofs.Turns.{Out, book, is_sound, in_book, seen_told, stays_seen, under, holds, record_here, record_else, book_called, decided, decided_told}

-- ---- which outcomes are decided early, or at the load of the runqueue's word
pub early_settled : (queue : Capacity) (now : Reading) (x : Record) (op : Op) (reply : Reply) → early x op ≡ Some reply → settled x queue now op ≡ (x, reply)
early_settled queue now x (Timer ticket m) reply is = ap (λ o. unless o x (record x { place = On (runqueue_of x.place (Timer ticket m)) Inactive }, Retired)) is
early_settled queue now x (Join r m) reply is = absurd cc
early_settled queue now x (Wake r m) reply is = absurd cc
early_settled queue now x (Block r m) reply is = absurd cc
early_settled queue now x Leave reply is = absurd cc
early_settled queue now x Exit reply is = absurd cc
early_settled queue now x (Charge r dt) reply is = absurd cc
early_settled queue now x (Retune q p) reply is = absurd cc

full_if : (b : Bool) (p q : Record × Reply) → is_decided_at_load q.1 ≡ false → Refuses p.1 → is_decided_at_load (cond b p q).1 ≡ true → Refuses (cond b p q).1
full_if true p q off is h = is
full_if false p q off is h = absurd (both_ways _ off h)

not_if : (b : Bool) (p q : Record × Reply) → is_decided_at_load p.1 ≡ false → is_decided_at_load q.1 ≡ false → is_decided_at_load (cond b p q).1 ≡ false
not_if true p q a c = a
not_if false p q a c = c

-- what is decided at the load changes no reading: it refuses, or changes no sum
pub decided_at_load : (queue : Capacity) (now : Reading) (x : Record) (op : Op) → is_decided_at_load (settled x queue now op).1 ≡ true → Refuses (settled x queue now op).1 ⊎ (changes_sum x op ≡ false)
decided_at_load queue now x (Join r m) is =
    let y = arrived x r m in
    inl (full_if (nat_lt queue.most (now.this + bandwidth_of x.params)) (x, Full) (y, Joined y.server.q y.server.d) refl refl is)
decided_at_load queue now x (Wake r m) is = absurd cc
decided_at_load queue now x (Block r m) is = absurd (both_ways _ (not_if (nat_lt m (lag_moment x)) _ _ refl refl) is)
decided_at_load queue now x (Charge r dt) is = inr refl
decided_at_load queue now x Leave is = absurd cc
decided_at_load queue now x (Timer ticket m) is = absurd (both_ways _ (of_timer (λ (k : Record × Reply). is_decided_at_load k.1 ≡ false) (nat_lt m (lag_moment x)) x (lag_moment x) _ refl refl) is)
decided_at_load queue now x (Retune q p) is =
    let params : Reservation = record { runtime = q; period = p } in
    let y : Record = record x { params = params; server = record { q = q; d = 0 } } in
    inl (full_if (is_inactive x.place && nat_lt (queue.most + bandwidth_of x.params) (now.this + bandwidth_of params)) (x, Full) (y, Retuned) refl refl is)
decided_at_load queue now x Exit is = absurd cc

module _ {S : Type 0} (x : Share) (s : State S View) (id : ℕ) (c : List (ℕ × S)) (k : Kept x.terms s) (at : get_elem? s.views id ≡ some (alone x)) (t : ℕ) (op : Op) (rec : Record) (has : x.hold ≡ Undecided t op rec) where
  abbrev T : Terms
  T = x.terms

  abbrev b : Records
  b = book x s id c k at

  abbrev lt : t < length T.setup.tasks
  lt = (holds x s id c k at t op rec has).0

  mine : k.grips t ≡ grip x.number rec (stored_of rec)
  mine = (holds x s id c k at t op rec has).1

  record_is : record_at b t ≡ rec
  record_is = (holds x s id c k at t op rec has).2

  below : t < length b
  below = in_book x s id c k at t lt

  shows : Shows (grip x.number rec (stored_of rec)) (record_at b t) (words_of T.setup s.words t)
  shows = subst (λ g. Shows g (record_at b t) (words_of T.setup s.words t)) mine (k.written.tasks t lt)

  is_kept : IsKept T.setup rec
  is_kept = subst (IsKept T.setup) record_is ((is_sound x s id c k at).kept t lt)

  -- the pass sees the history, and nothing else is new
  abbrev y : Share
  y = holding x k.history x.hold x.marks

  sees : Sees T x y
  sees = seen_told x s id c k at

  -- load-params
  load_params_out : Out x s id c (params_word_at T.setup t) (get_or s.words (params_word_at T.setup t) 0) (Of params_word IsReservation SawParams (get_or s.words (params_word_at T.setup t) 0))
  load_params_out = (
    k.history,
    x.hold,
    x.marks,
    stays_seen x s id c k at (params_word_at T.setup t),
    (
      rec.params,
      is_kept.reservation,
      sym shows.2,
      under x.hold t op rec (λ t op r. (rec.params ≡ r.params) × (y.hold ≡ x.hold) × (y.marks ≡ x.marks) × Sees T x y) has (refl, refl, refl, sees),
    ),
  )

  -- the words of the other tasks, and what is shown of this one, where its call is made and its words stay
  module _ (fits : IsOp T.setup op) (p : Record × Reply) (is : step T.setup b t op ≡ (set b t p.0, p.1)) where
    kept_words : ((r : ℕ) → r < length T.setup.queues → reading_of (set b t p.0) r ≡ reading_of b r) → Written T (set b t p.0) k.grips s.words
    kept_words readings = written_same T b (set b t p.0) k.grips k.grips s.words t k.written (λ u _. refl) (λ u other. record_else b t u p.0 other) readings
        (shows_held (k.grips t) x.number rec (record_at b t) (record_at (set b t p.0) t) (stored_of rec) (words_of T.setup s.words t) mine (k.written.tasks t lt))

    -- the event is at a load that changes no reading
    pub decided_here : (i : ℕ) → ((r : ℕ) → r < length T.setup.queues → reading_of (set b t p.0) r ≡ reading_of b r)
        → Out x s id c i (get_or s.words i 0) (λ U x y. (y.marks ≡ x.marks) × Decides U x t op rec p (stored_of rec) y × (record_in U y.seen t ≡ p.0))
    decided_here i readings =
        let d : Hold = Decided t rec p.0 (stored_of rec) in
        let g = holds x s id c k at t op rec has in (
          k.history ++ Call x.number t op p.1 ∷ [],
          d,
          x.marks,
          decided x s id c k at t op rec has p fits is i (get_or s.words i 0) k.grips (stored_of rec) mine (λ u _. refl) g.3 (subst (Written T (set b t p.0) k.grips) (sym (set-get_or s.words i 0)) (kept_words readings)),
          (refl, (decided_told x s id c k at t op rec has p fits is (stored_of rec), refl, (k.history, refl, record_is)), ap (λ z. record_at z t) (book_called x s id c k at t op rec has p fits is) ∙ record_here b t p.0 below),
        )

  -- load-server
  load_server_as : (i : ℕ) (o : Option Reply) → early rec op ≡ o → refused rec.place rec.count op ≡ None → IsOp T.setup op
      → Out x s id c i (get_or s.words i 0) (λ U x y. (y.marks ≡ x.marks) × (record_in U y.seen t ≡ rec) × DecidesIf o U x t op rec y)
  load_server_as i None is free fits = (k.history, x.hold, x.marks, stays_seen x s id c k at i, (refl, record_is, (sees, has)))
  load_server_as i (Some reply) is free fits =
      let r : ℕ = runqueue_of rec.place op in
      let p : Record × Reply = (rec, reply) in
      let steps : step T.setup b t op ≡ (set b t rec, reply) =
      settling T.setup b t op rec (queue_at T.setup r) (reading_of b r) record_is free (λ _. (refl, refl)) ∙ ap (λ (q : Record × Reply). (set b t q.0, q.1)) (early_settled (queue_at T.setup r) (reading_of b r) rec op reply is) in
      let same : set b t rec ≡ b = ap (set b t) (sym record_is) ∙ set-get_or b t no_record in
      let o = decided_here fits p steps i (λ q _. ap (λ z. reading_of z q) same) in
      (o.0, o.1, o.2, o.3, (o.4.0, o.4.2, (o.4.1.0, o.4.1.1)))
    where
      no_record : Record
      no_record = record { place = Gone; count = 0; params = record { runtime = 0; period = 0 }; server = record { q = 0; d = 0 } }

  load_server_out : refused rec.place rec.count op ≡ None → IsOp T.setup op → Out x s id c (server_word_at T.setup t) (get_or s.words (server_word_at T.setup t) 0) (Of server_word ServerFits SawServer (get_or s.words (server_word_at T.setup t) 0))
  load_server_out free fits =
      let o = load_server_as (server_word_at T.setup t) (early rec op) refl free fits in
      let z : Share = holding x o.0 o.1 o.2 in (
        o.0,
        o.1,
        o.2,
        o.3,
        (
          rec.server,
          (ServerFits-kept T.setup rec is_kept).0,
          sym shows.1,
          under x.hold t op rec (λ t op r. (rec.server ≡ r.server) × (z.marks ≡ x.marks) × (record_in T z.seen t ≡ r) × DecidesIf (early r op) T x t op r z) has (refl, o.4.0, o.4.1, o.4.2),
        ),
      )

  module _ (r : ℕ) (about : r ≡ runqueue_of rec.place op) (inside : r < length T.setup.queues) (free : refused rec.place rec.count op ≡ None) (fits : IsOp T.setup op) where
    abbrev now : Reading
    now = reading_of b r

    abbrev p : Record × Reply
    p = outcome T r now rec op

    steps : step T.setup b t op ≡ (set b t p.0, p.1)
    steps = settling T.setup b t op rec (queue_at T.setup r) now record_is free (λ _. (ap (queue_at T.setup) about, ap (reading_of b) about))

    readings_at_load : is_decided_at_load p.1 ≡ true → (q : ℕ) → reading_of (set b t p.0) q ≡ reading_of b q
    readings_at_load is q = ⊎_elim
        (λ (refuses : Refuses p.1). ap (λ z. reading_of z q) (sym (ap (λ z. z.0) steps) ∙ refused_same T.setup b t op below (subst Refuses (sym (ap (λ z. z.1) steps)) refuses)))
        (λ (quiet : changes_sum rec op ≡ false). ap (λ z. reading_of z q) (sym (ap (λ z. z.0) steps)) ∙ step_unchanged T.setup b t op q below (ap (λ z. changes_sum z op) record_is ∙ quiet))
        (decided_at_load (queue_at T.setup r) now rec op is)

    is_reading : IsReadingFor T r rec now
    is_reading = record {
      running = running_le_this b r;
      this = (is_sound x s id c k at).admitted r inside;
      counts = subst (Counts now r) record_is (counts_each b t r below);
    }

    -- load-queue
    load_queue_as : (d : Bool) → is_decided_at_load p.1 ≡ d → Out x s id c (queue_word_at r) (get_or s.words (queue_word_at r) 0) (λ U x y. (y.marks ≡ x.marks) × SawQueueAs d U x r t op rec now y)
    load_queue_as true is = let o = decided_here fits p steps (queue_word_at r) (λ q _. readings_at_load is q) in (o.0, o.1, o.2, o.3, (o.4.0, o.4.1))
    load_queue_as false is = (k.history, x.hold, x.marks, stays_seen x s id c k at (queue_word_at r), (refl, (sees, refl, refl, record_is)))

    fits_now : QueueFits now
    fits_now = reading_fits T k.history r k.limited k.is_history inside

    load_queue_out : Out x s id c (queue_word_at r) (get_or s.words (queue_word_at r) 0) (Of queue_word QueueFits (SawQueue r) (get_or s.words (queue_word_at r) 0))
    load_queue_out =
        let o = load_queue_as (is_decided_at_load p.1) refl in
        let z : Share = holding x o.0 o.1 o.2 in (
          o.0,
          o.1,
          o.2,
          o.3,
          (
            now,
            fits_now,
            sym (k.written.queues r inside),
            under x.hold t op rec (λ t op rec. (z.marks ≡ x.marks) × IsReadingFor T r rec now × SawQueueAs (is_decided_at_load (outcome T r now rec op).1) T x r t op rec now z) has (o.4.0, is_reading, o.4.1),
          ),
        )

    -- change-queue
    abbrev found : ℕ
    found = get_or s.words (queue_word_at r) 0

    abbrev Told : ℕ → Terms → Share → Share → Type 0
    Told old = Of queue_word QueueFits (λ m. ChangedQueue r m (eqb found old)) old

    change_queue_hit : (old new : ℕ) (then : Reading) → found ≡ old → old ≡ queue_word then → QueueFits then → new ≡ queue_word (shifted_of then r rec (outcome T r then rec op).0) → Out x s id c (queue_word_at r) new (Told old)
    change_queue_hit old new then hit was fit change =
        let g = holds x s id c k at t op rec has in
        let same : then ≡ now = same_queue then now fit fits_now (sym was ∙ sym hit ∙ k.written.queues r inside) in
        let moved : shifted_of now r (record_at b t) p.0 ≡ reading_of (set b t p.0) r = shifted_set b t p.0 r below in
        let word : new ≡ queue_word (reading_of (set b t p.0) r) =
        change ∙ ap (λ (m : Reading). queue_word (shifted_of m r rec (outcome T r m rec op).0)) same ∙ ap (λ (z : Record). queue_word (shifted_of now r z p.0)) (sym record_is) ∙ ap queue_word moved in
        let elsewhere : (q : ℕ) → q ≢ r → reading_of (set b t p.0) q ≡ reading_of b q = λ q other. ap (λ z. reading_of z q) (sym (ap (λ z. z.0) steps))
        ∙ step_elsewhere T.setup b t op q below (λ e. other (sym e ∙ ap (λ (z : Record). runqueue_of z.place op) record_is ∙ sym about)) in
        let written = written_queue T b (set b t p.0) k.grips k.grips s.words t k.written (λ u _. refl) (λ u other. record_else b t u p.0 other) r new inside word elsewhere
        (shows_held (k.grips t) x.number rec (record_at b t) (record_at (set b t p.0) t) (stored_of rec) (words_of T.setup s.words t) mine (k.written.tasks t lt)) in
        let h = k.history ++ Call x.number t op p.1 ∷ [] in
        let d : Hold = Decided t rec p.0 (stored_of rec) in
        let z : Share = holding x h d x.marks in
        let told : ChangedQueue r now true T x z =
        under x.hold t op rec (λ t op rec. (z.marks ≡ x.marks) × Decides T x t op rec (outcome T r now rec op) (stored_of rec) z) has
        (refl, (decided_told x s id c k at t op rec has p fits steps (stored_of rec), refl, (k.history, refl, record_is))) in (
          h,
          d,
          x.marks,
          decided x s id c k at t op rec has p fits steps (queue_word_at r) new k.grips (stored_of rec) mine (λ u _. refl) g.3 written,
          (now, fits_now, sym (k.written.queues r inside) ∙ hit, subst (λ w. ChangedQueue r now w T x z) (sym (eq-eqb found old hit)) told),
        )

    change_queue_out : (old new : ℕ) (then : Reading) → old ≡ queue_word then → QueueFits then → new ≡ queue_word (shifted_of then r rec (outcome T r then rec op).0)
        → Out x s id c (queue_word_at r) (either (eqb found old) new found) (Told old)
    change_queue_out old new then was fit change = exchanged found old new (λ m. Out x s id c (queue_word_at r) m (Told old))
        (λ hit. change_queue_hit old new then hit was fit change)
        (λ not.
        let told : ChangedQueue r then false T x y =
        under x.hold t op rec (λ t op rec. (y.marks ≡ x.marks) × Sees T x y × (y.hold ≡ x.hold) × (then ≢ reading_in T y.seen r) × (record_in T y.seen t ≡ rec)) has
        (refl, sees, refl, (λ e. not (k.written.queues r inside ∙ ap queue_word (sym e) ∙ sym was)), record_is) in
        (k.history, x.hold, x.marks, stays_seen x s id c k at (queue_word_at r), (then, fit, sym was, subst (λ w. ChangedQueue r then w T x y) (sym (ne_eqb found old not)) told)))

  -- settle-server, which is the event
  settle_server_out : (stored : ℕ) → refused rec.place rec.count op ≡ None → IsOp T.setup op → changes_sum rec op ≡ false → ¬ LooksAtQueue rec.place op → Out x s id c (server_word_at T.setup t) stored (SettledServer stored)
  settle_server_out stored free fits quiet blind =
      let p : Record × Reply = settled_quietly rec op in
      let j : ℕ = server_word_at T.setup t in
      let st : Stored = record { server = stored; params = (stored_of rec).params } in
      let g : Grip = grip x.number rec st in
      let grips : Grips = put k.grips t g in
      let here : grips t ≡ g = put_here k.grips t g in
      let steps : step T.setup b t op ≡ (set b t p.0, p.1) = settling T.setup b t op rec (record { most = 1; extra = 0 }) (record { running = 0; this = 0 }) record_is free (λ looks. absurd (blind looks)) in
      let readings : (q : ℕ) → q < length T.setup.queues → reading_of (set b t p.0) q ≡ reading_of b q = λ q _. ap (λ z. reading_of z q) (sym (ap (λ z. z.0) steps)) ∙ step_unchanged T.setup b t op q below (ap (λ z. changes_sum z op) record_is ∙ quiet) in
      let shown_now : Shows g (record_at (set b t p.0) t) (words_of T.setup (set s.words j stored) t) = subst (Shows g (record_at (set b t p.0) t)) (sym (set_server T.setup s.words t stored k.written.long lt)) (shows.0, refl, shows.2) in
      let written = written_task T b (set b t p.0) k.grips grips s.words t k.written (put_else k.grips t g) (λ u other. record_else b t u p.0 other) j stored (1, one_three, refl) readings
      (subst (λ f. Shows f (record_at (set b t p.0) t) (words_of T.setup (set s.words j stored) t)) (sym here) shown_now) in
      let h = k.history ++ Call x.number t op p.1 ∷ [] in
      let d : Hold = Decided t rec p.0 st in
      let z : Share = holding x h d x.marks in (
        h,
        d,
        x.marks,
        decided x s id c k at t op rec has p fits steps j stored grips st here (put_else k.grips t g) (only_put k.grips t g x.number (holds x s id c k at t op rec has).3) written,
        under x.hold t op rec (λ t op rec. (z.marks ≡ x.marks) × Decides T x t op rec (settled_quietly rec op) (record { server = stored; params = (stored_of rec).params }) z) has (refl, (decided_told x s id c k at t op rec has p fits steps st, refl, (k.history, refl, record_is))),
      )
    where
      one_three : 1 < 3
      one_three = omega arith

-- ---- of the seat that a function has
module _ (s : Shared) (seat : Seated) (t j : ℕ) (op : Op) (rec : Record) (h : HoldsFor s seat t op rec) where
  pub load_params_allowed : j ≡ params_word_at s.terms.setup t → IsAllowed s seat j (λ v. v) (Of params_word IsReservation SawParams)
  load_params_allowed e = allowed_at s seat h.seat_of (λ U. params_word_at U.setup t) j (λ v. v) (Of params_word IsReservation SawParams) e (task_within s seat h.seat_of t j 2 h.task (omega arith) e)
      (λ st k at. load_params_out (share_on seat) st seat.seat.id seat.seat.me.1 k at t op rec h.hold)

  pub load_server_allowed : j ≡ server_word_at s.terms.setup t → IsAllowed s seat j (λ v. v) (Of server_word ServerFits SawServer)
  load_server_allowed e = allowed_at s seat h.seat_of (λ U. server_word_at U.setup t) j (λ v. v) (Of server_word ServerFits SawServer) e (task_within s seat h.seat_of t j 1 h.task (omega arith) e)
      (λ st k at. load_server_out (share_on seat) st seat.seat.id seat.seat.me.1 k at t op rec h.hold h.unrefused (own_op s seat h.seat_of op h.op))

  pub settle_server_allowed : (n : ℕ) → j ≡ server_word_at s.terms.setup t → changes_sum rec op ≡ false → ¬ LooksAtQueue rec.place op → IsAllowed s seat j (λ _. n) (λ _. SettledServer n)
  settle_server_allowed n e quiet blind = allowed_at s seat h.seat_of (λ U. server_word_at U.setup t) j (λ _. n) (λ _. SettledServer n) e (task_within s seat h.seat_of t j 1 h.task (omega arith) e)
      (λ st k at. settle_server_out (share_on seat) st seat.seat.id seat.seat.me.1 k at t op rec h.hold n h.unrefused (own_op s seat h.seat_of op h.op) quiet blind)

  -- the runqueue that the op is about is there
  pub about_there : (r : ℕ) → r ≡ runqueue_of rec.place op → r < length s.terms.setup.queues
  about_there r about = subst (λ q. q < length s.terms.setup.queues) (sym about) (runqueue_there s.terms.setup rec.place op s.limited.queues_some h.kept.there h.op)

  pub load_queue_allowed : (r : ℕ) → j ≡ queue_word_at r → r ≡ runqueue_of rec.place op → IsAllowed s seat j (λ v. v) (λ v. OfQueue j (λ q. Of queue_word QueueFits (SawQueue q) v))
  load_queue_allowed r e about = allowed_at s seat h.seat_of (λ _. queue_word_at r) j (λ v. v) (λ v. OfQueue j (λ q. Of queue_word QueueFits (SawQueue q) v)) e (queue_within s seat h.seat_of r j (about_there r about) e)
      (λ st k at.
      let o = load_queue_out (share_on seat) st seat.seat.id seat.seat.me.1 k at t op rec h.hold r about (own_queue s seat h.seat_of r (about_there r about)) h.unrefused (own_op s seat h.seat_of op h.op) in
      (o.0, o.1, o.2, o.3, queue_told s seat h.seat_of r (λ q. Of queue_word QueueFits (SawQueue q) (get_or st.words (queue_word_at r) 0)) (share_on seat).terms (holding (share_on seat) o.0 o.1 o.2) j e o.4))

  pub change_queue_allowed : (r old new : ℕ) (now : Reading) → j ≡ queue_word_at r → r ≡ runqueue_of rec.place op → old ≡ queue_word now → QueueFits now → new ≡ queue_word (shifted_of now r rec (outcome s.terms r now rec op).0)
      → IsAllowed s seat j (λ v. either (eqb v old) new v) (λ v. OfQueue j (λ q. Of queue_word QueueFits (λ m. ChangedQueue q m (eqb v old)) old))
  change_queue_allowed r old new now e about was fit change = allowed_at s seat h.seat_of (λ _. queue_word_at r) j (λ v. either (eqb v old) new v) (λ v. OfQueue j (λ q. Of queue_word QueueFits (λ m. ChangedQueue q m (eqb v old)) old)) e (queue_within s seat h.seat_of r j (about_there r about) e)
      (λ st k at.
      let o = change_queue_out (share_on seat) st seat.seat.id seat.seat.me.1 k at t op rec h.hold r about (own_queue s seat h.seat_of r (about_there r about)) h.unrefused (own_op s seat h.seat_of op h.op) old new now was fit
      (subst (λ (U : Terms). new ≡ queue_word (shifted_of now r rec (outcome U r now rec op).0)) (sym h.seat_of.terms) change) in
      (o.0, o.1, o.2, o.3, queue_told s seat h.seat_of r (λ q. Of queue_word QueueFits (λ m. ChangedQueue q m (eqb (get_or st.words (queue_word_at r) 0) old)) old) (share_on seat).terms (holding (share_on seat) o.0 o.1 o.2) j e o.4))
