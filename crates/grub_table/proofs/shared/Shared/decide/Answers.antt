use Rattle.std.proofs.Common.{ap, sym, subst, ◌∙◌, arith, Some, None, ◌≡◌, ℕ, ◌<◌, Bool, true, false, List, [], ◌∷◌, ◌++◌, append_assoc, inl, inr, length, set}
use Rattle.grub_book.specs.Bandwidth.{Capacity}
use Rattle.grub_book.specs.Step.{settled, step, changes_sum, is_under_claim, runqueue_of}
use Rattle.grub_book.specs.Totals.{shifted_of}
use Rattle.grub_book.specs.declared.place.Record.{Record}
use Rattle.grub_book.specs.declared.reply.Reply.{Reply}
use Rattle.grub_table.specs.inside.Between.{Tells, HoldsFor}
use Rattle.grub_table.specs.inside.Tellings.{ChangedQueue, is_decided_at_load, outcome, Sees, Decides, IsReadingFor, SawQueueAs, SawQueue}
use Rattle.grub_table.specs.inside.Tries.{Tried, is_charge, TriedAs}
use Rattle.grub_table.proofs.Between.{reading_fits_for}
use Rattle.grub_table.proofs.ClaimTurns.{about_there}
use Rattle.grub_book.specs.Machine.{queue_at}
use Rattle.grub_book.specs.Sums.{Records, record_at, reading_of}
use Rattle.grub_book.specs.History.{HasChanged, book_of}
use Rattle.grub_book.specs.Sound.{IsKept, IsSound}
use Rattle.grub_book.specs.declared.event.Event.TheVariants.{Call}
use Rattle.grub_book.specs.declared.event.Reading.{Reading}
use Rattle.grub_book.specs.declared.op.Op.{Op}
use Rattle.grub_book.proofs.Changes.{changed_none, changed_once, changed_more}
use Rattle.grub_book.proofs.Claims.{settled_under}
use Rattle.grub_book.proofs.Refusals.{settling}
use Rattle.grub_book.proofs.Soundness.{kept_settled, sound_step}
use Rattle.grub_book.proofs.Totals.{shifted_set}
use Rattle.grub_table.specs.Words.{QueueFits}
use Rattle.grub_table.proofs.Bounds.{QueueFits-sound}
use Rattle.grub_table.specs.declared.shared.Shared.{Shared}
use Rattle.grub_table.specs.declared.seated.Seated.{Seated}
use Rattle.grub_table.specs.declared.view.Access.{Access}
use Rattle.grub_table.specs.declared.view.Access.TheVariants.{Load, Exchange}
use Rattle.grub_table.specs.declared.view.Share.{Share}
use Rattle.grub_table.specs.declared.view.Terms.{Terms}
use Rattle.grub_table.specs.Calls.{share_on, IsSeatOf}
use Rattle.grub_table.specs.Histories.{WasBefore, record_in, reading_in}
use Rattle.grub_table.specs.Layout.{queue_word_at}
use Rattle.grub_table.specs.inside.Brief.{TriesOnce}
use Rattle.grub_table.specs.inside.Layout.{stored_of}
use Rattle.grub_table.proofs.Moves.{sound}
use Rattle.grub_table.proofs.Turns.{under}
use Rattle.grub_table.proofs.Growths.{sees_after, calls_after}
use Rattle.grub_table.proofs.Tries.{lost_changes}
use Rattle.grub_table.proofs.shared.Shared.decide.Goals as goal

-- ---- a try
module _ (s : Shared) (t : ℕ) (op : Op) (rec : Record) (r : ℕ) (now : Reading) (old mid : Seated) (h : HoldsFor s old t op rec) (about : r ≡ runqueue_of rec.place op) (saw : Tells s (SawQueue r now) old mid) where
  abbrev T : Terms
  T = s.terms

  abbrev p : Record × Reply
  p = outcome T r now rec op

  abbrev x : Share
  x = share_on old

  abbrev m : Share
  m = share_on mid

  there : r < length T.setup.queues
  there = about_there s old t 0 op rec h r about

  told : (m.marks ≡ x.marks) × IsReadingFor T r rec now × SawQueueAs (is_decided_at_load p.1) T x r t op rec now m
  told = saw.of t op rec h.hold

  reading_is : IsReadingFor T r rec now
  reading_is = told.1

  reading_fits : QueueFits now
  reading_fits = reading_fits_for s rec r now there reading_is

  next_kept : IsKept T.setup p.0
  next_kept = kept_settled T.setup (queue_at T.setup r) now rec op h.op h.unrefused h.kept

  under_claim : is_under_claim p.1 ≡ true
  under_claim = settled_under (queue_at T.setup r) now rec op

  made : (q : Record × Reply) (new : Seated) → q ≡ p → IsSeatOf s new → (share_on new).number ≡ x.number → (share_on new).marks ≡ x.marks → Decides T x t op rec p (stored_of rec) (share_on new) → Tells s (Tried r (Some q)) old new
  made q new is seat number same d =
      let w = subst (λ (z : Record × Reply). Decides T x t op rec z (stored_of rec) (share_on new) × IsKept T.setup z.0 × (is_under_claim z.1 ≡ true)) (sym is) (d, next_kept, under_claim) in
      record { seat = seat; number = number; of = under x.hold t op rec (λ t op rec. ((share_on new).marks ≡ x.marks) × TriedAs r (Some q) T x t op rec (share_on new)) h.hold (same, w) }

  -- the outcome, and whether the reply is decided at the load
  module _ (queue : Capacity) (at_queue : queue ≡ queue_at T.setup r) (q : Record × Reply) (settles : q ≡ settled rec queue now op) (decided : Bool) (decides : decided ≡ is_decided_at_load q.1) where
    is : q ≡ p
    is = settles ∙ ap (λ (c : Capacity). settled rec c now op) at_queue

    at_load : (b : Bool) → decided ≡ b → is_decided_at_load p.1 ≡ b
    at_load b now_is = ap (λ (z : Record × Reply). is_decided_at_load z.1) (sym is) ∙ sym decides ∙ now_is

    moves : (new : Reading) → new ≡ shifted_of now r rec q.0 → new ≡ shifted_of now r rec p.0
    moves new moved = moved ∙ ap (λ (z : Record × Reply). shifted_of now r rec z.0) is

    tried_at_load : decided ≡ true → Tells s (Tried (runqueue_of rec.place op) (Some q)) old mid
    tried_at_load on = subst (λ v. Tells s (Tried v (Some q)) old mid) about (made q mid is saw.seat saw.number told.0 (subst (λ b. SawQueueAs b T x r t op rec now m) (at_load true on) told.2))

    -- it is not
    module _ (undecided : decided ≡ false) where
      off : is_decided_at_load p.1 ≡ false
      off = at_load false undecided

      still : Sees T x m × (m.hold ≡ x.hold) × (now ≡ reading_in T m.seen r) × (record_in T m.seen t ≡ rec)
      still = subst (λ b. SawQueueAs b T x r t op rec now m) off told.2

      holds_still : HoldsFor s mid t op rec
      holds_still = record { seat_of = saw.seat; hold = still.1 ∙ h.hold; task = h.task; op = h.op; kept = h.kept; unrefused = h.unrefused }

      abbrev b : Records
      b = book_of T.setup m.seen

      sum_changes : (changes_sum rec op ≡ false → is_charge op ≡ true) → changes_sum rec op ≡ true
      sum_changes sums = lost_changes (queue_at T.setup r) now rec op sums off

      new_fits : (new : Reading) → new ≡ shifted_of now r rec q.0 → QueueFits new
      new_fits new moved =
          let is_sound : IsSound T.setup b = sound T m.seen s.limited still.0.0 in
          let one = is_sound.one_each in
          let lt = h.task in
          let below : t < length b = omega (arith, one, lt) in
          let steps : step T.setup b t op ≡ (set b t p.0, p.1) = settling T.setup b t op rec (queue_at T.setup r) now still.3 h.unrefused (λ _. (ap (queue_at T.setup) about, still.2 ∙ ap (reading_of b) about)) in
          let sound_then : IsSound T.setup (set b t p.0) = subst (IsSound T.setup) (ap (λ z. z.0) steps) (sound_step T.setup b t op is_sound lt h.op) in
          let shifts : shifted_of (reading_of b r) r (record_at b t) p.0 ≡ reading_of (set b t p.0) r = shifted_set b t p.0 r below in
          let same : new ≡ reading_of (set b t p.0) r =
          moves new moved ∙ ap (λ (n : Reading). shifted_of n r rec p.0) still.2 ∙ ap (λ (z : Record). shifted_of (reading_of b r) r z p.0) (sym still.3) ∙ shifts in
          subst QueueFits (sym same) (QueueFits-sound T.setup (set b t p.0) r sound_then there (s.limited.capacities r there))

      module _ (new : Seated) (won : Bool) (changed : Tells s (ChangedQueue r now won) mid new) where
        abbrev y : Share
        y = share_on new

        tried_won : won ≡ true → Tells s (Tried (runqueue_of rec.place op) (Some q)) old new
        tried_won is_won =
            let w = subst (λ v. ChangedQueue r now v T m y) is_won changed.of t op rec holds_still.hold in
            subst (λ v. Tells s (Tried v (Some q)) old new) about
            (made q new is changed.seat (changed.number ∙ saw.number) (w.0 ∙ told.0) (calls_after T x m y t op p.1 saw.number still.0 w.1.0, w.1.1, subst (λ n. WasBefore T t rec (Call n t op p.1) y.seen) saw.number w.1.2))

        tried_lost : won ≡ false → (changes_sum rec op ≡ false → is_charge op ≡ true) → Tells s (Tried (runqueue_of rec.place op) None) old new
        tried_lost is_lost sums =
            let l = subst (λ v. ChangedQueue r now v T m y) is_lost changed.of t op rec holds_still.hold in
            let change : HasChanged T.setup r x.seen y.seen 1 = changed_more T.setup r x.seen m.seen y.seen 0 1 (changed_none T.setup r x.seen m.seen still.0.1.starts) (changed_once T.setup r m.seen y.seen l.1.1.starts (λ same. l.3 (still.2 ∙ same))) in
            subst (λ v. Tells s (Tried v None) old new) about
            (record {
              seat = changed.seat;
              number = changed.number ∙ saw.number;
              of = under x.hold t op rec (λ t op rec. (y.marks ≡ x.marks) × TriedAs r None T x t op rec y) h.hold
                  (l.0 ∙ told.0, (sees_after T x m y saw.number still.0 l.1, l.2 ∙ still.1, l.4, change, sum_changes sums));
            })

-- ---- what a try makes
made_at_load : (r v : ℕ) (sum : Bool) (q : Record × Reply) (before after : List Access) → r ≡ v → after ≡ before ++ Load (queue_word_at r) ∷ [] → TriesOnce (queue_word_at v) sum (Some q) before after
made_at_load r v sum q before after about made = inl (subst (λ u. after ≡ before ++ Load (queue_word_at u) ∷ []) about made)

made_both : (r v : ℕ) (b won : Bool) (before mid after : List Access) → r ≡ v → won ≡ b → mid ≡ before ++ Load (queue_word_at r) ∷ [] → after ≡ mid ++ Exchange (queue_word_at r) won ∷ [] → after ≡ before ++ Load (queue_word_at v) ∷ Exchange (queue_word_at v) b ∷ []
made_both r v b won before mid after about is to_mid to_after =
    let here : after ≡ before ++ Load (queue_word_at r) ∷ Exchange (queue_word_at r) won ∷ [] = to_after ∙ ap (λ l. l ++ Exchange (queue_word_at r) won ∷ []) to_mid ∙ append_assoc before (Load (queue_word_at r) ∷ []) (Exchange (queue_word_at r) won ∷ []) in
    subst (λ (p : ℕ × Bool). after ≡ before ++ Load (queue_word_at p.0) ∷ Exchange (queue_word_at p.0) p.1 ∷ []) (λ i. (about i, is i)) here

-- ---- the answers
pub load_queue-now-requires : goal.load_queue-now-requires
load_queue-now-requires c = (c.requires.held.0, c.args.op, c.args.held.now, c.requires.held.1, c.runqueue-r.ensures)

pub queue-requires : goal.queue-requires
queue-requires c = there _ c.requires.held.0 _ _ _ _ _ _ c.requires.held.1 c.runqueue-r.ensures c.load_queue-now.ensures.told

pub settle-next-requires-clause-not_refused : goal.settle-next-requires-clause-not_refused
settle-next-requires-clause-not_refused c = c.requires.held.1.unrefused

pub settle-next-requires-clause-fits : goal.settle-next-requires-clause-fits
settle-next-requires-clause-fits c = c.requires.held.1.kept.server.fits

pub settle-next-requires-clause-count : goal.settle-next-requires-clause-count
settle-next-requires-clause-count c = c.requires.held.1.kept.count

pub settle-next-requires-clause-fits_a_setup : goal.settle-next-requires-clause-fits_a_setup
settle-next-requires-clause-fits_a_setup c = (c.args.self.now.terms.setup, c.requires.held.1.op)

pub settle-next-requires-clause-running : goal.settle-next-requires-clause-running
settle-next-requires-clause-running c = (reading_is _ c.requires.held.0 _ _ _ _ _ _ c.requires.held.1 c.runqueue-r.ensures c.load_queue-now.ensures.told).running

pub settle-next-requires-clause-this : goal.settle-next-requires-clause-this
settle-next-requires-clause-this c =
    let most = ap (λ (q : Capacity). q.most) c.queue.ensures.value in
    let this = (reading_is _ c.requires.held.0 _ _ _ _ _ _ c.requires.held.1 c.runqueue-r.ensures c.load_queue-now.ensures.told).this in
    omega (arith, most, this)

pub returns-then-is_decided_at_load-clause-told : goal.returns-then-is_decided_at_load-clause-told
returns-then-is_decided_at_load-clause-told c =
    tried_at_load _ c.requires.held.0 _ _ _ _ _ _ c.requires.held.1 c.runqueue-r.ensures c.load_queue-now.ensures.told _ c.queue.ensures.value _ c.settle-next.ensures _ c.is_decided_at_load.ensures c.if-is_decided_at_load.true

pub shifted-new-requires-clause-counts : goal.shifted-new-requires-clause-counts
shifted-new-requires-clause-counts c = (reading_is _ c.requires.held.0 _ _ _ _ _ _ c.requires.held.1 c.runqueue-r.ensures c.load_queue-now.ensures.told).counts

pub shifted-new-requires-clause-most : goal.shifted-new-requires-clause-most
shifted-new-requires-clause-most c = (reading_fits _ c.requires.held.0 _ _ _ _ _ _ c.requires.held.1 c.runqueue-r.ensures c.load_queue-now.ensures.told).this

pub shifted-new-requires-clause-running : goal.shifted-new-requires-clause-running
shifted-new-requires-clause-running c = (reading_is _ c.requires.held.0 _ _ _ _ _ _ c.requires.held.1 c.runqueue-r.ensures c.load_queue-now.ensures.told).running

pub change_queue-requires-clause-held : goal.change_queue-requires-clause-held
change_queue-requires-clause-held c =
    let still = holds_still _ c.requires.held.0 _ _ _ _ _ _ c.requires.held.1 c.runqueue-r.ensures c.load_queue-now.ensures.told _ c.queue.ensures.value _ c.settle-next.ensures _ c.is_decided_at_load.ensures c.if-is_decided_at_load.false in
    (c.requires.held.0, c.args.op, c.args.held.now, still, (c.runqueue-r.ensures, moves _ c.requires.held.0 _ _ _ _ _ _ c.requires.held.1 c.runqueue-r.ensures c.load_queue-now.ensures.told _ c.queue.ensures.value _ c.settle-next.ensures _ c.is_decided_at_load.ensures _ c.shifted-new.ensures))

pub change_queue-requires-clause-old : goal.change_queue-requires-clause-old
change_queue-requires-clause-old c = reading_fits _ c.requires.held.0 _ _ _ _ _ _ c.requires.held.1 c.runqueue-r.ensures c.load_queue-now.ensures.told

pub change_queue-requires-clause-new : goal.change_queue-requires-clause-new
change_queue-requires-clause-new c = new_fits _ c.requires.held.0 _ _ _ _ _ _ c.requires.held.1 c.runqueue-r.ensures c.load_queue-now.ensures.told _ c.queue.ensures.value _ c.settle-next.ensures _ c.is_decided_at_load.ensures c.if-is_decided_at_load.false _ c.shifted-new.ensures

pub returns-then-change_queue-clause-told : goal.returns-then-change_queue-clause-told
returns-then-change_queue-clause-told c =
    tried_won _ c.requires.held.0 _ _ _ _ _ _ c.requires.held.1 c.runqueue-r.ensures c.load_queue-now.ensures.told _ c.queue.ensures.value _ c.settle-next.ensures _ c.is_decided_at_load.ensures c.if-is_decided_at_load.false _ _ c.change_queue.ensures.told c.if-change_queue.true

pub returns-else-change_queue-clause-told : goal.returns-else-change_queue-clause-told
returns-else-change_queue-clause-told c =
    tried_lost _ c.requires.held.0 _ _ _ _ _ _ c.requires.held.1 c.runqueue-r.ensures c.load_queue-now.ensures.told _ c.queue.ensures.value _ c.settle-next.ensures _ c.is_decided_at_load.ensures c.if-is_decided_at_load.false _ _ c.change_queue.ensures.told c.if-change_queue.false c.requires.about

pub returns-then-is_decided_at_load-clause-made : goal.returns-then-is_decided_at_load-clause-made
returns-then-is_decided_at_load-clause-made c = made_at_load _ _ _ c.settle-next.result _ _ c.runqueue-r.ensures c.load_queue-now.ensures.made

pub returns-then-change_queue-clause-made : goal.returns-then-change_queue-clause-made
returns-then-change_queue-clause-made c =
    let sum = sum_changes _ c.requires.held.0 _ _ _ _ _ _ c.requires.held.1 c.runqueue-r.ensures c.load_queue-now.ensures.told _ c.queue.ensures.value _ c.settle-next.ensures _ c.is_decided_at_load.ensures c.if-is_decided_at_load.false c.requires.about in
    inr (made_both _ _ true _ _ _ _ c.runqueue-r.ensures c.if-change_queue.true c.load_queue-now.ensures.made c.change_queue.ensures.made, sum)

pub returns-else-change_queue-clause-made : goal.returns-else-change_queue-clause-made
returns-else-change_queue-clause-made c = made_both _ _ false _ _ _ _ c.runqueue-r.ensures c.if-change_queue.false c.load_queue-now.ensures.made c.change_queue.ensures.made
