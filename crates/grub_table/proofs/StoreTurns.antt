-- The stores of a pass that holds a task are allowed: store-server, store-params and give-back after the event, and give-up.
use Rattle.std.proofs.Common.{◌≡◌, ℕ, ◌<◌, false, List, [], ◌∷◌, ◌++◌, length, set, sym, refl, ap, ◌∙◌, subst, arith}
use Rattle.std.proofs.Math.Nat.{add-zero}
use mathlib.Core.Logic.{dite}
use mathlib.Core.Option.{some}
use native.Mathlib.Decide.{ℕ_discrete}
use lib.ListN.{get_elem?}
use Rattle.atomic_table.specs.Table.{State, keeps, stepped}
use Rattle.grub_book.specs.Sums.{Records, record_at}
use Rattle.grub_book.specs.declared.event.Event.{Event}
use Rattle.grub_book.specs.declared.op.Op.{Op}
use Rattle.grub_book.specs.declared.place.Record.{Record}
use Rattle.grub_book.proofs.Histories.{starts_whole}
use Rattle.grub_table.specs.declared.shared.Shared.{Shared}
use Rattle.grub_table.specs.declared.seated.Seated.{Seated}
use Rattle.grub_table.specs.declared.view.Hold.{Hold}
use Rattle.grub_table.specs.declared.view.Hold.TheVariants.{Free, Undecided, Decided}
use Rattle.grub_table.specs.declared.view.Mark.{Mark}
use Rattle.grub_table.specs.declared.view.Mark.TheVariants.{Given}
use Rattle.grub_table.specs.declared.view.Share.{Share}
use Rattle.grub_table.specs.declared.view.Stored.{Stored}
use Rattle.grub_table.specs.declared.view.Terms.{Terms}
use Rattle.grub_table.specs.declared.view.View.{View}
use Rattle.grub_table.specs.Marks.{AreLawful, holder_after, holder_of, marker_of}
use Rattle.grub_table.specs.Layout.{task_word_at, shown}
use Rattle.grub_table.specs.inside.Layout.{server_word_at, params_word_at, stored_of}
use Rattle.grub_table.specs.Calls.{share_on}
use Rattle.grub_table.specs.inside.Between.{IsAllowed, HoldsFor, HoldsMade}
use Rattle.grub_table.specs.inside.Views.{alone, holding}
use Rattle.grub_table.specs.inside.Tellings.{Sees, Gives, GaveUp, GaveBack, StoredServer, StoredParams}
use Rattle.grub_table.specs.inside.Rule.{Known, Grip, Grips, loose, grip, Grasps, IsOnly, holder_in, Kept}
use Rattle.grub_table.proofs.Marks.{lawful_more, holder_more, given_here, given_else}
use Rattle.grub_table.proofs.Growths.{goes_own}
use Rattle.grub_table.proofs.Seats.{known_seen, known_kept, marked_more, IsMine}
use Rattle.grub_table.proofs.Rows.{put, put_here, put_else, only_put, is_loose_not, IsWordOf, words_of, Shows, set_task, set_server, set_params, written_task}
use Rattle.grub_table.proofs.Allowed.{allowed_at, task_within}
use Rattle.grub_table.proofs.Turns.{Out, book, own, grasp, marked, seen_told, turned, turned_held, under, decided_as}

module _ {S : Type 0} (x : Share) (s : State S View) (id : ℕ) (c : List (ℕ × S)) (k : Kept x.terms s) (at : get_elem? s.views id ≡ some (alone x)) where
  abbrev T : Terms
  T = x.terms

  abbrev b : Records
  b = book x s id c k at

  -- ---- after the event
  module _ (t : ℕ) (before rec : Record) (stored : Stored) (has : x.hold ≡ Decided t before rec stored) where
    grasps : Grasps T k.grips b x.number (Decided t before rec stored)
    grasps = subst (Grasps T k.grips b x.number) has (grasp x s id c k at)

    shows : Shows (grip x.number before stored) (record_at b t) (words_of T.setup s.words t)
    shows = subst (λ g. Shows g (record_at b t) (words_of T.setup s.words t)) grasps.1 (k.written.tasks t grasps.0)

    -- one of the task's stored words changes
    restored : (j n : ℕ) (now : Stored) → IsWordOf T.setup t j → Shows (grip x.number before now) (record_at b t) (words_of T.setup (set s.words j n) t)
        → Kept T (stepped s j n id c (alone (holding x x.seen (Decided t before rec now) x.marks)) keeps)
    restored j n now of new =
        let g : Grip = grip x.number before now in
        let grips : Grips = put k.grips t g in
        let here : grips t ≡ g = put_here k.grips t g in
        let d : Hold = Decided t before rec now in
        turned_held x s id c k at j n t k.history x.seen grips d before stored now (starts_whole k.history) k.is_history (known_kept T k.history k.owner s.views id x d x.marks k.known at) grasps.1 here (put_else k.grips t g) (λ u _. refl)
        (grasps.0, here, grasps.2, only_put k.grips t g x.number grasps.3)
        (written_task T b b k.grips grips s.words t k.written (put_else k.grips t g) (λ u _. refl) j n of (λ r _. refl) (subst (λ f. Shows f (record_at b t) (words_of T.setup (set s.words j n) t)) (sym here) new))

    store_server_out : (n : ℕ) → Out x s id c (server_word_at T.setup t) n (StoredServer n)
    store_server_out n =
        let j : ℕ = server_word_at T.setup t in
        let now : Stored = record { server = n; params = stored.params } in
        let d : Hold = Decided t before rec now in
        let z : Share = holding x x.seen d x.marks in (
          x.seen,
          d,
          x.marks,
          restored j n now (1, one_three, refl) (subst (Shows (grip x.number before now) (record_at b t)) (sym (set_server T.setup s.words t n k.written.long grasps.0)) (shows.0, refl, shows.2)),
          decided_as x.hold t before rec stored (λ t before rec stored. (z.seen ≡ x.seen) × (z.marks ≡ x.marks) × (z.hold ≡ Decided t before rec (record { server = n; params = stored.params }))) has (refl, refl, refl),
        )
      where
        one_three : 1 < 3
        one_three = omega arith

    store_params_out : (n : ℕ) → Out x s id c (params_word_at T.setup t) n (StoredParams n)
    store_params_out n =
        let j : ℕ = params_word_at T.setup t in
        let now : Stored = record { server = stored.server; params = n } in
        let d : Hold = Decided t before rec now in
        let z : Share = holding x x.seen d x.marks in (
          x.seen,
          d,
          x.marks,
          restored j n now (2, two_three, refl) (subst (Shows (grip x.number before now) (record_at b t)) (sym (set_params T.setup s.words t n k.written.long grasps.0)) (shows.0, shows.1, refl)),
          decided_as x.hold t before rec stored (λ t before rec stored. (z.seen ≡ x.seen) × (z.marks ≡ x.marks) × (z.hold ≡ Decided t before rec (record { server = stored.server; params = n }))) has (refl, refl, refl),
        )
      where
        two_three : 2 < 3
        two_three = omega arith

  -- ---- give-up and give-back
  abbrev given : ℕ → List Mark
  given t = k.marks ++ Given x.number t ∷ []

  given_lawful : (t : ℕ) (before : Record) (stored : Stored) → k.grips t ≡ grip x.number before stored → AreLawful T.passes (given t)
  given_lawful t before stored held = lawful_more T.passes k.marks (Given x.number t) k.lawful ((own x s id c k at).number, k.tied t ∙ ap holder_in held)

  gives : (t : ℕ) (before : Record) (stored : Stored) (seen : List Event) → k.grips t ≡ grip x.number before stored → Gives t T x (holding x seen Free (given t))
  gives t before stored seen held = (refl, (given_lawful t before stored held, goes_own marker_of x.number x.marks k.marks (Given x.number t) refl (marked x s id c k at)))

  -- the task is nobody's, and its words are its record
  freed : (t : ℕ) (before rec : Record) (stored : Stored) (seen : List Event) (n : ℕ) → t < length T.setup.tasks → k.grips t ≡ grip x.number before stored → record_at b t ≡ rec → stored ≡ stored_of rec → IsOnly k.grips x.number t → n ≡ shown rec false
      → Known T k.history k.owner (set s.views id (alone (holding x seen Free (given t)))) → Kept T (stepped s (task_word_at T.setup t) n id c (alone (holding x seen Free (given t))) keeps)
  freed t before rec stored seen n lt held is same only word known =
      let j : ℕ = task_word_at T.setup t in
      let grips : Grips = put k.grips t loose in
      let here : grips t ≡ loose = put_here k.grips t loose in
      let shows = subst (λ g. Shows g (record_at b t) (words_of T.setup s.words t)) held (k.written.tasks t lt) in
      let new : Shows loose rec (words_of T.setup (set s.words j n) t) = subst (Shows loose rec) (sym (set_task T.setup s.words t n k.written.long lt)) (word, shows.1 ∙ ap (λ (w : Stored). w.server) same, shows.2 ∙ ap (λ (w : Stored). w.params) same) in
      turned x s id c k at j n t k.history seen grips Free (given t) (given t) (starts_whole k.history) k.is_history known (subst (IsMine x.number) (sym held) refl) (subst (IsMine x.number) (sym here) tt) (put_else k.grips t loose) (λ u _. refl)
      (λ u bef st e. dite (ℕ_discrete u t) (λ at_t. is_loose_not (sym here ∙ ap grips (sym at_t) ∙ e)) (λ other. other (only u bef st (sym (put_else k.grips t loose u other) ∙ e))))
      (written_task T b b k.grips grips s.words t k.written (put_else k.grips t loose) (λ u _. refl) j n (0, zero_three, sym (add-zero j)) (λ r _. refl)
      (subst (λ (p : Grip × Record). Shows p.0 p.1 (words_of T.setup (set s.words j n) t)) (λ i. (sym here i, sym is i)) new))
      (given_lawful t before stored held)
      (λ u. holder_more k.marks (Given x.number t) u ∙ dite (ℕ_discrete u t)
      (λ same_task. ap (λ v. holder_after v (holder_of k.marks v) (Given x.number t)) same_task ∙ given_here t x.number (holder_of k.marks t) ∙ sym (ap holder_in (ap grips same_task ∙ here)))
      (λ other. given_else u x.number t (holder_of k.marks u) other ∙ k.tied u ∙ ap holder_in (sym (put_else k.grips t loose u other))))
      (marked_more T k.history k.owner k.marks s.views id x (Given x.number t) seen Free k.known k.marked at refl)
      (λ i bef st e. absurd (is_loose_not (sym here ∙ e)))
    where
      zero_three : 0 < 3
      zero_three = omega arith

  give_up_out : (t : ℕ) (op : Op) (rec : Record) (n : ℕ) → x.hold ≡ Undecided t op rec → n ≡ shown rec false → Out x s id c (task_word_at T.setup t) n GaveUp
  give_up_out t op rec n has word =
      let g = subst (Grasps T k.grips b x.number) has (grasp x s id c k at) in
      let z : Share = holding x k.history Free (given t) in
      let sees : Sees T x z = seen_told x s id c k at in (
        k.history,
        Free,
        given t,
        freed t rec rec (stored_of rec) k.history n g.0 g.1 g.2 refl g.3 word (known_seen T k.history k.owner s.views id x Free (given t) k.known at),
        under x.hold t op rec (λ t op rec. Sees T x z × Gives t T x z) has (sees, gives t rec (stored_of rec) k.history g.1),
      )

  give_back_out : (t : ℕ) (before rec : Record) (n : ℕ) → x.hold ≡ Decided t before rec (stored_of rec) → n ≡ shown rec false → Out x s id c (task_word_at T.setup t) n GaveBack
  give_back_out t before rec n has word =
      let g = subst (Grasps T k.grips b x.number) has (grasp x s id c k at) in
      let z : Share = holding x x.seen Free (given t) in (
        x.seen,
        Free,
        given t,
        freed t before rec (stored_of rec) x.seen n g.0 g.1 g.2 refl g.3 word (known_kept T k.history k.owner s.views id x Free (given t) k.known at),
        decided_as x.hold t before rec (stored_of rec) (λ t before rec stored. (z.seen ≡ x.seen) × Gives t T x z) has (refl, gives t before (stored_of rec) x.seen g.1),
      )

-- ---- of the seat that a function has
module _ (s : Shared) (seat : Seated) (t j : ℕ) (op : Op) (rec : Record) (h : HoldsFor s seat t op rec) where
  pub give_up_allowed : (n : ℕ) → j ≡ task_word_at s.terms.setup t → n ≡ shown rec false → IsAllowed s seat j (λ _. n) (λ _. GaveUp)
  give_up_allowed n e word = allowed_at s seat h.seat_of (λ U. task_word_at U.setup t) j (λ _. n) (λ _. GaveUp) e (task_within s seat h.seat_of t j 0 h.task (omega arith) (omega (arith, e)))
      (λ st k at. give_up_out (share_on seat) st seat.seat.id seat.seat.me.1 k at t op rec n h.hold word)

module _ (s : Shared) (seat : Seated) (t j : ℕ) (now : Record) (stored : Stored) (h : HoldsMade s seat t now stored) where
  pub store_server_allowed : (n : ℕ) → j ≡ server_word_at s.terms.setup t → IsAllowed s seat j (λ _. n) (λ _. StoredServer n)
  store_server_allowed n e = allowed_at s seat h.seat_of (λ U. server_word_at U.setup t) j (λ _. n) (λ _. StoredServer n) e (task_within s seat h.seat_of t j 1 h.task (omega arith) e)
      (λ st k at. store_server_out (share_on seat) st seat.seat.id seat.seat.me.1 k at t h.hold.0 now stored h.hold.1 n)

  pub store_params_allowed : (n : ℕ) → j ≡ params_word_at s.terms.setup t → IsAllowed s seat j (λ _. n) (λ _. StoredParams n)
  store_params_allowed n e = allowed_at s seat h.seat_of (λ U. params_word_at U.setup t) j (λ _. n) (λ _. StoredParams n) e (task_within s seat h.seat_of t j 2 h.task (omega arith) e)
      (λ st k at. store_params_out (share_on seat) st seat.seat.id seat.seat.me.1 k at t h.hold.0 now stored h.hold.1 n)

  pub give_back_allowed : (n : ℕ) → j ≡ task_word_at s.terms.setup t → stored ≡ stored_of now → n ≡ shown now false → IsAllowed s seat j (λ _. n) (λ _. GaveBack)
  give_back_allowed n e same word = allowed_at s seat h.seat_of (λ U. task_word_at U.setup t) j (λ _. n) (λ _. GaveBack) e (task_within s seat h.seat_of t j 0 h.task (omega arith) (omega (arith, e)))
      (λ st k at. give_back_out (share_on seat) st seat.seat.id seat.seat.me.1 k at t h.hold.0 now n (h.hold.1 ∙ ap (Decided t h.hold.0 now) same) word)
