-- look, load-task and take-claim are allowed.
use Rattle.std.proofs.Common.{◌≡◌, ◌⊎◌, ℕ, ◌+◌, ◌<◌, true, false, List, [], ◌∷◌, ◌++◌, length, set, get_or, sym, refl, ap, ◌∙◌, subst, inl, inr, arith, Option, Some, None, eqb}
use Rattle.std.proofs.Math.Nat.{add-zero}
use mathlib.Core.Logic.{dite}
use mathlib.Core.Option.{some}
use native.Mathlib.Decide.{ℕ_discrete}
use lib.ListN.{get_elem?}
use prog.Atomic.{either}
use Rattle.atomic_table.specs.Table.{State}
use Rattle.atomic_table.proofs.Lists.{exchanged}
use Rattle.grub_book.specs.Op.{IsOp}
use Rattle.grub_book.specs.Sums.{Records, record_at, reading_of}
use Rattle.grub_book.specs.History.{IsTrueOf, book_of}
use Rattle.grub_book.specs.Sound.{IsKept}
use Rattle.grub_book.specs.Step.{refused, step}
use Rattle.grub_book.specs.inside.Steps.{replied}
use Rattle.grub_book.specs.declared.event.Event.{Event}
use Rattle.grub_book.specs.declared.op.Op.{Op}
use Rattle.grub_book.specs.declared.event.Event.TheVariants.{Call, Look}
use Rattle.grub_book.specs.declared.event.Reading.{Reading}
use Rattle.grub_book.specs.declared.place.Place.{Place}
use Rattle.grub_book.specs.declared.place.Record.{Record}
use Rattle.grub_book.specs.declared.reply.Reply.{Reply}
use Rattle.grub_book.proofs.Histories.{book_push, starts_whole, starts_next}
use Rattle.grub_book.proofs.Soundness.{moved}
use Rattle.grub_table.specs.Words.{queue_word, task_word, QueueFits}
use Rattle.grub_table.proofs.Tasks.{task_word-claimed, claims_apart}
use Rattle.grub_table.specs.declared.shared.Shared.{Shared}
use Rattle.grub_table.specs.declared.seated.Seated.{Seated}
use Rattle.grub_table.specs.declared.view.Hold.{Hold}
use Rattle.grub_table.specs.declared.view.Hold.TheVariants.{Free, Undecided}
use Rattle.grub_table.specs.declared.view.Mark.{Mark}
use Rattle.grub_table.specs.declared.view.Mark.TheVariants.{Taken}
use Rattle.grub_table.specs.declared.view.Note.{Note}
use Rattle.grub_table.specs.declared.view.Share.{Share}
use Rattle.grub_table.specs.declared.view.Stored.{Stored}
use Rattle.grub_table.specs.declared.view.Terms.{Terms}
use Rattle.grub_table.specs.declared.view.View.{View}
use Rattle.grub_table.specs.Marks.{holder_after, holder_of, marker_of}
use Rattle.grub_table.specs.Layout.{queue_word_at, task_word_at, shown}
use Rattle.grub_table.specs.inside.Layout.{stored_of}
use Rattle.grub_table.specs.Histories.{record_in}
use Rattle.grub_table.specs.inside.Views.{alone, holding}
use Rattle.grub_table.specs.inside.Tellings.{CallsIf, IsOthers, Of, OfQueue, SawReading, LoadedTask, TookClaim}
use Rattle.grub_table.specs.inside.Between.{hold_of, IsAllowed}
use Rattle.grub_table.specs.Calls.{share_on, IsSeatOf}
use Rattle.grub_table.specs.inside.Rule.{holder_in, Grip, Grips, loose, grip, Grasps, TaskShows, Kept}
use Rattle.grub_table.proofs.Marks.{lawful_more, holder_more, taken_here, taken_else}
use Rattle.grub_table.proofs.Growths.{goes_own, history_more, finished}
use Rattle.grub_table.proofs.Moves.{reading_fits}
use Rattle.grub_table.proofs.Seats.{known_event, known_seen, marked_more, IsMine}
use Rattle.grub_table.proofs.Rows.{put, put_here, put_else, same_before, Words, words_of, Shows, set_task, written_task}
use Rattle.grub_table.proofs.Allowed.{allowed_at, own_task, own_op, own_queue, task_within, queue_within, queue_told}
use Rattle.grub_table.proofs.Turns.{Out, book, own, grasp, marked, is_sound, seen_told, marks_told, call_told, same_marks, stays, stays_all, stays_called, turned}

module _ {S : Type 0} (x : Share) (s : State S View) (id : ℕ) (c : List (ℕ × S)) (k : Kept x.terms s) (at : get_elem? s.views id ≡ some (alone x)) where
  abbrev T : Terms
  T = x.terms

  abbrev b : Records
  b = book x s id c k at

  abbrev word_of : ℕ → ℕ
  word_of t = get_or s.words (task_word_at T.setup t) 0

  -- ---- look
  look_out : (r : ℕ) → r < length T.setup.queues → Out x s id c (queue_word_at r) (get_or s.words (queue_word_at r) 0) (Of queue_word QueueFits (SawReading r) (get_or s.words (queue_word_at r) 0))
  look_out r lt =
      let now : Reading = reading_of b r in
      let e : Event = Look x.number r now in
      let h : List Event = k.history ++ e ∷ [] in
      let so : IsTrueOf T.setup b e = (lt, refl) in
      let history = history_more T k.history e k.is_history so (own x s id c k at).number in
      let same : book_of T.setup h ≡ b = book_push T.setup k.history e in (
        h,
        x.hold,
        x.marks,
        stays x s id c k at (queue_word_at r) h h x.hold x.marks (starts_next k.history e) history (known_event T k.history k.owner s.views id x e x.hold x.marks k.known at refl) same (grasp x s id c k at) (same_marks x s id c k at h x.hold),
        (
          now,
          reading_fits T k.history r k.limited k.is_history lt,
          sym (k.written.queues r lt),
          (refl, refl, finished T k.history x e history (own x s id c k at) refl, (λ t op rec is. ap (λ z. record_at z t) same ∙ (subst (Grasps T k.grips b x.number) is (grasp x s id c k at)).2)),
        ),
      )

  -- a held task is another's, where the pass holds none
  others : (t i : ℕ) (before : Record) (stored : Stored) → x.hold ≡ Free → k.grips t ≡ grip i before stored → word_of t ≡ shown before true → IsOthers T x.number t (word_of t) (holding x k.history x.hold k.marks)
  others t i before stored free is word =
      let unheld = subst (Grasps T k.grips b x.number) free (grasp x s id c k at) in
      let a = k.since t i before stored is in
      ((a.0, a.1, word ∙ ap (λ (y : Record). shown y true) (sym a.2)), (i, k.tied t ∙ ap holder_in is, λ same. unheld t before stored (is ∙ ap (λ n. grip n before stored) same)))

  -- ---- load-task
  abbrev Told : Note → Record → Share → Type 0
  Told n rec y = (word_of n.task ≡ shown rec false) × IsKept T.setup rec × CallsIf (refused rec.place rec.count n.op) T x n.task n.op y

  loaded_free : (n : Note) (o : Option Reply) → n.task < length T.setup.tasks → IsOp T.setup n.op → word_of n.task ≡ shown (record_at b n.task) false → refused (record_at b n.task).place (record_at b n.task).count n.op ≡ o
      → Out x s id c (task_word_at T.setup n.task) (word_of n.task) (LoadedTask n (word_of n.task))
  loaded_free n None lt fits word is = (
    k.history,
    x.hold,
    k.marks,
    stays_all x s id c k at (task_word_at T.setup n.task),
    (refl, marks_told x s id c k at, inr (word, (is_sound x s id c k at).kept n.task lt, subst (λ o. CallsIf o T x n.task n.op (holding x k.history x.hold k.marks)) (sym is) (seen_told x s id c k at))),
  )
  loaded_free n (Some reply) lt fits word is =
      let steps : step T.setup b n.task n.op ≡ (b, reply) = ap (λ o. replied b n.task o (moved T.setup b n.task n.op)) is in
      let h : List Event = k.history ++ Call x.number n.task n.op reply ∷ [] in
      let y : Share = holding x h x.hold k.marks in
      let same : record_in T h n.task ≡ record_at b n.task = ap (λ z. record_at z n.task) (book_push T.setup k.history (Call x.number n.task n.op reply) ∙ ap (λ p. p.0) steps) in
      let told : Told n (record_at b n.task) y = (word, (is_sound x s id c k at).kept n.task lt, subst (λ o. CallsIf o T x n.task n.op y) (sym is) (call_told x s id c k at n.task n.op reply x.hold k.marks lt fits (ap (λ p. p.1) steps))) in
      (h, x.hold, k.marks, stays_called x s id c k at (task_word_at T.setup n.task) n.task n.op reply lt fits steps, (refl, marks_told x s id c k at, inr (subst (λ r. Told n r y) (sym same) told)))

  loaded_as : (n : Note) (g : Grip) → k.grips n.task ≡ g → x.hold ≡ Free → n.task < length T.setup.tasks → IsOp T.setup n.op → Shows g (record_at b n.task) (words_of T.setup s.words n.task)
      → Out x s id c (task_word_at T.setup n.task) (word_of n.task) (LoadedTask n (word_of n.task))
  loaded_as n loose is free lt fits shows = loaded_free n (refused (record_at b n.task).place (record_at b n.task).count n.op) lt fits shows.0 refl
  loaded_as n (grip i before stored) is free lt fits shows = (
    k.history,
    x.hold,
    k.marks,
    stays_all x s id c k at (task_word_at T.setup n.task),
    (refl, marks_told x s id c k at, inl (seen_told x s id c k at, others n.task i before stored free is shows.0)),
  )

  load_task_out : (n : Note) → x.hold ≡ Free → n.task < length T.setup.tasks → IsOp T.setup n.op → Out x s id c (task_word_at T.setup n.task) (word_of n.task) (LoadedTask n (word_of n.task))
  load_task_out n free lt fits = loaded_as n (k.grips n.task) refl free lt fits (k.written.tasks n.task lt)

  -- ---- take-claim
  -- a task is loose whose word has no claim bit
  is_loose : (g : Grip) (y : Record) (w : Words) (p : Place) (m : ℕ) → Shows g y w → w.task ≡ task_word p m false → (g ≡ loose) × TaskShows loose y w.task w.server w.params
  is_loose loose y w p m shows is = (refl, shows)
  is_loose (grip i before stored) y w p m shows is = absurd (claims_apart before.place p before.count m (sym shows.0 ∙ is))

  took : (n : Note) (old new : ℕ) (p : Place) (m : ℕ) → word_of n.task ≡ old → x.hold ≡ Free → n.task < length T.setup.tasks → old ≡ task_word p m false → new ≡ task_word p m true
      → Out x s id c (task_word_at T.setup n.task) new (TookClaim n old (word_of n.task))
  took n old new p m found free lt was now =
      let t : ℕ = n.task in
      let rec : Record = record_at b t in
      let w = words_of T.setup s.words t in
      let j : ℕ = task_word_at T.setup t in
      let stored : Stored = stored_of rec in
      let g : Grip = grip x.number rec stored in
      let grips : Grips = put k.grips t g in
      let here : grips t ≡ g = put_here k.grips t g in
      let unheld = subst (Grasps T k.grips b x.number) free (grasp x s id c k at) in
      let l = is_loose (k.grips t) rec w p m (k.written.tasks t lt) (found ∙ was) in
      let word : new ≡ shown rec true = now ∙ task_word-claimed p m ∙ ap (λ v. v + 8) (sym was ∙ sym found ∙ l.1.0) ∙ sym (task_word-claimed rec.place rec.count) in
      let mark : Mark = Taken x.number t in
      let ms : List Mark = k.marks ++ mark ∷ [] in
      let d : Hold = Undecided t n.op rec in
      let lawful = lawful_more T.passes k.marks mark k.lawful ((own x s id c k at).number, k.tied t ∙ ap holder_in l.0) in
      let shows : Shows g rec (words_of T.setup (set s.words j new) t) = subst (Shows g rec) (sym (set_task T.setup s.words t new k.written.long lt)) (word, l.1.1, l.1.2) in (
        k.history,
        d,
        ms,
        turned x s id c k at j new t k.history k.history grips d ms ms (starts_whole k.history) k.is_history (known_seen T k.history k.owner s.views id x d ms k.known at) (subst (IsMine x.number) (sym l.0) tt) (subst (IsMine x.number) (sym here) refl)
            (put_else k.grips t g) (λ u _. refl)
            (lt, here, refl, (λ u before st is. dite (ℕ_discrete u t) (λ same. same) (λ other. absurd (unheld u before st (sym (put_else k.grips t g u other) ∙ is)))))
            (written_task T b b k.grips grips s.words t k.written (put_else k.grips t g) (λ u _. refl) j new (0, lit_three, sym (add-zero j)) (λ r less. refl) (subst (λ f. Shows f rec (words_of T.setup (set s.words j new) t)) (sym here) shows))
            lawful
            (λ u. holder_more k.marks mark u ∙ dite (ℕ_discrete u t)
            (λ same. ap (λ v. holder_after v (holder_of k.marks v) mark) same ∙ taken_here t x.number (holder_of k.marks t) ∙ sym (ap holder_in (ap grips same ∙ here)))
            (λ other. taken_else u x.number t (holder_of k.marks u) other ∙ k.tied u ∙ ap holder_in (sym (put_else k.grips t g u other))))
            (marked_more T k.history k.owner k.marks s.views id x mark k.history d k.known k.marked at refl)
            (λ i before st is. (k.history, starts_whole k.history, same_before x.number i rec before stored st (sym here ∙ is))),
        (
          seen_told x s id c k at,
          (λ _. (rec, refl, was ∙ sym was ∙ sym found ∙ l.1.0, (is_sound x s id c k at).kept t lt, refl, (lawful, goes_own marker_of x.number x.marks k.marks mark refl (marked x s id c k at)))),
          (λ not. absurd (not found)),
        ),
      )
    where
      lit_three : 0 < 3
      lit_three = omega arith

  missed : (t : ℕ) (g : Grip) → k.grips t ≡ g → x.hold ≡ Free → Shows g (record_at b t) (words_of T.setup s.words t)
      → let y = holding x k.history x.hold k.marks in IsOthers T x.number t (word_of t) y ⊎ (word_of t ≡ shown (record_in T y.seen t) false)
  missed t loose is free shows = inr shows.0
  missed t (grip i before stored) is free shows = inl (others t i before stored free is shows.0)

  take_claim_out : (n : Note) (old new : ℕ) (p : Place) (m : ℕ) → x.hold ≡ Free → n.task < length T.setup.tasks → old ≡ task_word p m false → new ≡ task_word p m true
      → Out x s id c (task_word_at T.setup n.task) (either (eqb (word_of n.task) old) new (word_of n.task)) (TookClaim n old (word_of n.task))
  take_claim_out n old new p m free lt was now =
      let found : ℕ = word_of n.task in
      exchanged found old new (λ v. Out x s id c (task_word_at T.setup n.task) v (TookClaim n old found))
      (λ is. took n old new p m is free lt was now)
      (λ not. (
        k.history,
        x.hold,
        k.marks,
        stays_all x s id c k at (task_word_at T.setup n.task),
        (seen_told x s id c k at, (λ is. absurd (not is)), (λ _. (refl, marks_told x s id c k at, missed n.task (k.grips n.task) refl free (k.written.tasks n.task lt)))),
      ))

-- ---- of the seat that a function has
module _ (s : Shared) (seat : Seated) (is : IsSeatOf s seat) where
  abbrev y : Share
  y = share_on seat

  pub look_allowed : (r j : ℕ) → r < length s.terms.setup.queues → j ≡ queue_word_at r → IsAllowed s seat j (λ v. v) (λ v. OfQueue j (λ q. Of queue_word QueueFits (SawReading q) v))
  look_allowed r j lt e = allowed_at s seat is (λ _. queue_word_at r) j (λ v. v) (λ v. OfQueue j (λ q. Of queue_word QueueFits (SawReading q) v)) e (queue_within s seat is r j lt e)
      (λ st k at.
      let o = look_out y st seat.seat.id seat.seat.me.1 k at r (own_queue s seat is r lt) in
      (o.0, o.1, o.2, o.3, queue_told s seat is r (λ q. Of queue_word QueueFits (SawReading q) (get_or st.words (queue_word_at r) 0)) y.terms (holding y o.0 o.1 o.2) j e o.4))

  module _ (free : hold_of seat ≡ Free) (t j : ℕ) (lt : t < length s.terms.setup.tasks) (e : j ≡ task_word_at s.terms.setup t) where
    within : j < s.table.inner.shared.table_id.words
    within = task_within s seat is t j 0 lt (omega arith) (omega (arith, e))

    pub load_task_allowed : (n : Note) (op : Op) → n ≡ record { task = t; op = op } → IsOp s.terms.setup op → IsAllowed s seat j (λ v. v) (λ v. LoadedTask n v)
    load_task_allowed n op asked fits =
        let n' : Note = record { task = t; op = op } in
        subst (λ n. IsAllowed s seat j (λ v. v) (λ v. LoadedTask n v)) (sym asked)
        (allowed_at s seat is (λ U. task_word_at U.setup t) j (λ v. v) (λ v. LoadedTask n' v) e within (λ st k at. load_task_out y st seat.seat.id seat.seat.me.1 k at n' free (own_task s seat is t lt) (own_op s seat is op fits)))

    pub take_claim_allowed : (op : Op) (old new : ℕ) (p : Place) (m : ℕ) → old ≡ task_word p m false → new ≡ task_word p m true
        → IsAllowed s seat j (λ v. either (eqb v old) new v) (λ v. TookClaim (record { task = t; op = op }) old v)
    take_claim_allowed op old new p m was now =
        let n : Note = record { task = t; op = op } in
        allowed_at s seat is (λ U. task_word_at U.setup t) j (λ v. either (eqb v old) new v) (λ v. TookClaim n old v) e within (λ st k at. take_claim_out y st seat.seat.id seat.seat.me.1 k at n old new p m free (own_task s seat is t lt) was now)
