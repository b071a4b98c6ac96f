-- A pass whose tasks no other pass calls on, and whose runqueue no other joins, gets the replies of a book of its own.
use Rattle.std.proofs.Common.{◌≡◌, ◌≢◌, ◌⊎◌, ℕ, ◌+◌, ◌<◌, nat_lt, ◌&&◌, cond, true, false, List, [], ◌∷◌, fold, length, set, Option, Some, None, refl, sym, ap, ◌∙◌, subst, ⊎_elim, arith, eq-eqb, ne_eqb, get_or-set_other, get_or, unwrap_or}
use Rattle.std.specs.List.{All, slice_get}
use Rattle.std.proofs.lemmas.Option.{slice_get-get_or, slice_get_within, unwrap_or-slice_get}
use Rattle.std.proofs.lemmas.List.{get_or-set_same}
use Rattle.std.proofs.lemmas.List.Elements.{All-head, All-tail}
use mathlib.Core.Logic.{dite}
use native.Mathlib.Decide.{ℕ_discrete}
use Rattle.grub_book.specs.Bandwidth.{Capacity, Reservation, bandwidth_of}
use Rattle.grub_book.specs.Server.{charge_of, depleted_of}
use Rattle.grub_book.specs.declared.server.Server.{Server}
use Rattle.grub_book.specs.Machine.{Machine, queue_at}
use Rattle.grub_book.specs.Op.{IsOp}
use Rattle.grub_book.specs.Sums.{Records, is_active_on, is_on, reading_of, record_at, share_of}
use Rattle.grub_book.specs.Step.{LooksAtQueue, arrived, charged, is_inactive, lag_moment, refused, runqueue_of, settled, step}
use Rattle.grub_book.specs.inside.Steps.{replied}
use Rattle.grub_book.specs.Totals.{shifted_of}
use Rattle.grub_book.specs.History.{IsLegalFrom, after, calls_of, pass_of}
use Rattle.grub_book.specs.declared.place.State.TheVariants.{Contending, NonContending, Inactive}
use Rattle.grub_book.specs.declared.place.Place.{Place}
use Rattle.grub_book.specs.declared.place.Place.TheVariants.{Away, Gone, On}
use Rattle.grub_book.specs.declared.place.Record.{Record}
use Rattle.grub_book.specs.declared.op.Op.{Op}
use Rattle.grub_book.specs.declared.op.Op.TheVariants.{Join, Wake, Block, Leave, Timer, Exit, Charge, Retune}
use Rattle.grub_book.specs.declared.reply.Reply.{Reply}
use Rattle.grub_book.specs.declared.reply.Reply.TheVariants as replies
use Rattle.grub_book.specs.declared.event.Event.{Event}
use Rattle.grub_book.specs.declared.event.Event.TheVariants as events
use Rattle.grub_book.specs.declared.event.Reading.{Reading}
use Rattle.grub_book.proofs.Cases.{of_either, of_timer}
use Rattle.grub_book.proofs.Refusals.{settled_alike}
use Rattle.grub_book.proofs.Soundness.{moved}
use Rattle.grub_book.proofs.Tells.{length_replied}
use Rattle.grub_book.proofs.Totals.{same_sums, step_shifts}
use Rattle.grub_workers.proofs.OnlyNamed.{NamesAt}
use Rattle.grub_workers.proofs.Others.{replied_else}

-- the task is nowhere, or on a runqueue for which Q holds
abbrev pub IsAt : (ℕ → Type 0) → Place → Type 0
IsAt Q Away = Unit {0}
IsAt Q Gone = Unit {0}
IsAt Q (On r state) = Q r

-- ---- one op
module _ (Q : ℕ → Type 0) where
  pub timer_at : (place : Place) (count ticket m : ℕ) → refused place count (Timer ticket m) ≡ None → IsAt Q place → Q (runqueue_of place (Timer ticket m))
  timer_at Away count ticket m free at = absurd (cc)
  timer_at Gone count ticket m free at = absurd (cc)
  timer_at (On r Contending) count ticket m free at = absurd (cc)
  timer_at (On r NonContending) count ticket m free at = at
  timer_at (On r Inactive) count ticket m free at = absurd (cc)

  charged_at : (x : Record) (dq : ℕ) (o : Option (ℕ × Server)) → IsAt Q x.place → IsAt Q (charged x dq o).0.place
  charged_at x dq None at = at
  charged_at x dq (Some (k, s)) at = at

  settled_at : (x : Record) (queue : Capacity) (now : Reading) (op : Op) → refused x.place x.count op ≡ None → IsAt Q x.place → NamesAt Q op → IsAt Q (settled x queue now op).0.place
  settled_at x queue now (Join r m) free at named =
      let y = arrived x r m in of_either (λ (k : Record × Reply). IsAt Q k.0.place) (nat_lt queue.most (now.this + bandwidth_of x.params)) (x, replies.Full) (y, replies.Joined y.server.q y.server.d) at named
  settled_at x queue now (Wake r m) free at named = named
  settled_at x queue now (Block r m) free at named =
      let waits : Record = record x { place = On r NonContending; count = x.count + 1 } in
      let sleeps : Record = record x { place = On r Inactive } in
      of_either (λ (k : Record × Reply). IsAt Q k.0.place) (nat_lt m (lag_moment x)) (waits, replies.Waiting (x.count + 1) (lag_moment x)) (sleeps, replies.Asleep) named named
  settled_at x queue now (Charge r dt) free at named =
      let dq = charge_of dt (bandwidth_of x.params) queue now.running now.this in charged_at x dq (depleted_of x.server x.params dq) at
  settled_at x queue now Leave free at named = tt
  settled_at x queue now Exit free at named = tt
  settled_at x queue now (Timer ticket m) free at named =
      let retires : Record = record x { place = On (runqueue_of x.place (Timer ticket m)) Inactive } in
      of_timer (λ (k : Record × Reply). IsAt Q k.0.place) (nat_lt m (lag_moment x)) x (lag_moment x) (retires, replies.Retired) at (timer_at x.place x.count ticket m free at)
  settled_at x queue now (Retune q p) free at named =
      let params : Reservation = record { runtime = q; period = p } in
      let tuned : Record = record x { params = params; server = record { q = q; d = 0 } } in
      of_either (λ (k : Record × Reply). IsAt Q k.0.place) (is_inactive x.place && nat_lt (queue.most + bandwidth_of x.params) (now.this + bandwidth_of params)) (x, replies.Full) (tuned, replies.Retuned) at at

  pub retune_at : (place : Place) (q p : ℕ) → IsAt Q place → is_inactive place ≡ true → Q (runqueue_of place (Retune q p))
  retune_at Away q p at on = absurd (cc)
  retune_at Gone q p at on = absurd (cc)
  retune_at (On r Contending) q p at on = absurd (cc)
  retune_at (On r NonContending) q p at on = absurd (cc)
  retune_at (On r Inactive) q p at on = at

  looks_at : (place : Place) (op : Op) → IsAt Q place → NamesAt Q op → LooksAtQueue place op → Q (runqueue_of place op)
  looks_at place (Join r m) at named looks = named
  looks_at place (Charge r dt) at named looks = named
  looks_at place (Retune q p) at named looks = retune_at place q p at looks
  looks_at place (Wake r m) at named looks = absurd looks
  looks_at place (Block r m) at named looks = absurd looks
  looks_at place Leave at named looks = absurd looks
  looks_at place (Timer ticket m) at named looks = absurd looks
  looks_at place Exit at named looks = absurd looks

  at_replied : (book : Records) (t : ℕ) (o : Option Reply) (m : Record × Reply) → t < length book → IsAt Q (record_at book t).place → (o ≡ None → IsAt Q m.0.place) → IsAt Q (record_at (replied book t o m).0 t).place
  at_replied book t (Some reply) m low was new = was
  at_replied book t None m low was new = subst (λ (x : Record). IsAt Q x.place) (sym (get_or-set_same book t m.0 _ low)) (new refl)

  -- each task stays where Q holds, if the op that is asked for it names no other runqueue
  pub at_after : (s : Machine) (book : Records) (t : ℕ) (op : Op) (u : ℕ) → t < length book → (u ≡ t → NamesAt Q op) → IsAt Q (record_at book u).place → IsAt Q (record_at (step s book t op).0 u).place
  at_after s book t op u low named at = dite (ℕ_discrete u t)
      (λ same.
      let x = record_at book t in
      let here : IsAt Q x.place = subst (λ k. IsAt Q (record_at book k).place) same at in
      subst (λ k. IsAt Q (record_at (step s book t op).0 k).place) (sym same)
      (at_replied book t (refused x.place x.count op) (moved s book t op) low here
      (λ free. settled_at x (queue_at s (runqueue_of x.place op)) (reading_of book (runqueue_of x.place op)) op free here (named same))))
      (λ other. subst (λ (x : Record). IsAt Q x.place) (sym (replied_else u book t other (refused (record_at book t).place (record_at book t).count op) (moved s book t op))) at)

pub length_step : (s : Machine) (book : Records) (t : ℕ) (op : Op) → length (step s book t op).0 ≡ length book
length_step s book t op = length_replied book t (refused (record_at book t).place (record_at book t).count op) (moved s book t op)

adds_none : (i : ℕ) (x : Record) → IsAt (λ r. r ≢ i) x.place → (share_of (is_on i) x ≡ 0) × (share_of (is_active_on i) x ≡ 0)
adds_none i x at = go x.place refl at
  where
    nothing : (place : Place) → x.place ≡ place → is_on i place ≡ false → is_active_on i place ≡ false → (share_of (is_on i) x ≡ 0) × (share_of (is_active_on i) x ≡ 0)
    nothing place is off inactive = (ap (λ b. cond b (bandwidth_of x.params) 0) (ap (is_on i) is ∙ off), ap (λ b. cond b (bandwidth_of x.params) 0) (ap (is_active_on i) is ∙ inactive))

    go : (place : Place) → x.place ≡ place → IsAt (λ r. r ≢ i) place → (share_of (is_on i) x ≡ 0) × (share_of (is_active_on i) x ≡ 0)
    go Away is at' = nothing Away is refl refl
    go Gone is at' = nothing Gone is refl refl
    go (On r Contending) is at' = nothing (On r Contending) is (ne_eqb r i at') (ne_eqb r i at')
    go (On r NonContending) is at' = nothing (On r NonContending) is (ne_eqb r i at') (ne_eqb r i at')
    go (On r Inactive) is at' = nothing (On r Inactive) is (ne_eqb r i at') refl

-- a call on a task that stays off a runqueue leaves its reading
pub reading_after : (s : Machine) (book : Records) (t : ℕ) (op : Op) (i : ℕ) → t < length book → NamesAt (λ r. r ≢ i) op → IsAt (λ r. r ≢ i) (record_at book t).place → reading_of (step s book t op).0 i ≡ reading_of book i
reading_after s book t op i low named at =
    let was = adds_none i (record_at book t) at in
    let now = adds_none i (record_at (step s book t op).0 t) (at_after (λ r. r ≢ i) s book t op t low (λ _. named) at) in
    let a = was.0 in let b = was.1 in let c = now.0 in let d = now.1 in
    step_shifts s book t op i low ∙ same_sums _ _ _ _ (omega (arith, b, d)) (omega (arith, a, c))

-- ---- a book beside the pass's own
-- The pass's tasks are those for which Own holds. They have the same records in both books, all off other runqueues, and the others are off the pass's.
pub record Agrees (i : ℕ) (Own : ℕ → Type 0) (n n' : ℕ) (book mine : Records) : Type 0 where
  pub long : length book ≡ n
  pub mine_long : length mine ≡ n'
  pub same : (t : ℕ) → Own t → record_at book t ≡ record_at mine t
  pub here : (t : ℕ) → Own t → IsAt (λ r. r ≡ i) (record_at book t).place
  pub off : (t : ℕ) → ¬ Own t → IsAt (λ r. r ≢ i) (record_at book t).place
  pub reading : reading_of book i ≡ reading_of mine i

-- the runqueue i and the tasks for which Own holds are the same in both
pub record IsSameAt (i : ℕ) (Own : ℕ → Type 0) (s s' : Machine) : Type 0 where
  pub queue : slice_get s'.queues i ≡ slice_get s.queues i
  pub tasks : (t : ℕ) → Own t → slice_get s'.tasks t ≡ slice_get s.tasks t

pub same_get : {X : Type 0} (xs ys : List X) (i : ℕ) (d : X) → slice_get ys i ≡ slice_get xs i → get_or ys i d ≡ get_or xs i d
same_get {X} xs ys i d same = sym (unwrap_or-slice_get ys i d) ∙ ap (λ o. unwrap_or o d) same ∙ unwrap_or-slice_get xs i d

same_within : {X : Type 0} (xs ys : List X) (i : ℕ) (d : X) → slice_get ys i ≡ slice_get xs i → i < length xs → i < length ys
same_within {X} xs ys i d same low = slice_get_within ys i (get_or xs i d) (same ∙ slice_get-get_or xs i d low)

-- a call of the pass is on its own tasks and runqueue, and one of another pass is on neither
abbrev pub IsOneSided : ℕ → (ℕ → Type 0) → Event → Type 0
IsOneSided i Own (events.Call j t op reply) = ((j ≡ i) × Own t × NamesAt (λ r. r ≡ i) op) ⊎ ((j ≢ i) × ¬ Own t × NamesAt (λ r. r ≢ i) op)
IsOneSided i Own (events.Look j r reading) = j ≡ i → r ≡ i

-- s is of the book with all passes, and s' of the pass's own book
module _ (s s' : Machine) (i : ℕ) (Own : ℕ → Type 0) (like : IsSameAt i Own s s') where
  queue_same : queue_at s i ≡ queue_at s' i
  queue_same = sym (same_get s.queues s'.queues i (record { most = 0; extra = 0 }) like.queue)

  queue_low : (r : ℕ) → r ≡ i → r < length s.queues → r < length s'.queues
  queue_low r is low = subst (λ k. k < length s'.queues) (sym is) (same_within s.queues s'.queues i (record { most = 0; extra = 0 }) like.queue (subst (λ k. k < length s.queues) is low))

  task_low : (t : ℕ) → Own t → t < length s.tasks → t < length s'.tasks
  task_low t own low = same_within s.tasks s'.tasks t (record { runtime = 0; period = 0 }) (like.tasks t own) low

  op_same : (op : Op) → NamesAt (λ r. r ≡ i) op → IsOp s op → IsOp s' op
  op_same (Join r m) named fits = (queue_low r named fits.0, fits.1)
  op_same (Wake r m) named fits = (queue_low r named fits.0, fits.1)
  op_same (Block r m) named fits = (queue_low r named fits.0, fits.1)
  op_same (Charge r dt) named fits = (queue_low r named fits.0, fits.1, fits.2)
  op_same Leave named fits = fits
  op_same (Timer ticket m) named fits = fits
  op_same (Retune q p) named fits = fits
  op_same Exit named fits = fits

  module _ (book mine : Records) (a : Agrees i Own (length s.tasks) (length s'.tasks) book mine) where
    low_of : (t : ℕ) → t < length s.tasks → t < length book
    low_of t low = let l = a.long in omega (arith, l, low)

    -- ---- a call of the pass
    moved_same : (t : ℕ) (op : Op) → Own t → NamesAt (λ r. r ≡ i) op → moved s book t op ≡ moved s' mine t op
    moved_same t op own named =
        let x = record_at book t in
        let r = runqueue_of x.place op in
        settled_alike x op (queue_at s r) (queue_at s' r) (reading_of book r) (reading_of mine r)
        (λ looks. let is = looks_at (λ k. k ≡ i) x.place op (a.here t own) named looks in (ap (queue_at s) is ∙ queue_same ∙ sym (ap (queue_at s') is), ap (reading_of book) is ∙ a.reading ∙ sym (ap (reading_of mine) is)))
        ∙ ap (λ (y : Record). settled y (queue_at s' (runqueue_of y.place op)) (reading_of mine (runqueue_of y.place op)) op) (a.same t own)

    replied_same : (t : ℕ) (op : Op) → Own t → NamesAt (λ r. r ≡ i) op → let x = record_at book t in step s' mine t op ≡ replied mine t (refused x.place x.count op) (moved s book t op)
    replied_same t op own named = sym (ap (λ (k : Option Reply × (Record × Reply)). replied mine t k.0 k.1) (λ j. (ap (λ (y : Record). refused y.place y.count op) (a.same t own) j, moved_same t op own named j)))

    pub reply_same : (t : ℕ) (op : Op) → Own t → NamesAt (λ r. r ≡ i) op → (step s book t op).1 ≡ (step s' mine t op).1
    reply_same t op own named = go (refused (record_at book t).place (record_at book t).count op) (moved s book t op) ∙ sym (ap (λ (k : Records × Reply). k.1) (replied_same t op own named))
      where
        go : (o : Option Reply) (m : Record × Reply) → (replied book t o m).1 ≡ (replied mine t o m).1
        go (Some reply) m = refl
        go None m = refl

    record_same : (t u : ℕ) (o : Option Reply) (m : Record × Reply) → t < length s.tasks → t < length s'.tasks → record_at book u ≡ record_at mine u → record_at (replied book t o m).0 u ≡ record_at (replied mine t o m).0 u
    record_same t u (Some reply) m low low' same = same
    record_same t u None m low low' same = dite (ℕ_discrete u t)
        (λ is. let l = a.mine_long in ap (λ k. record_at (set book t m.0) k) is ∙ get_or-set_same book t m.0 _ (low_of t low) ∙ sym (ap (λ k. record_at (set mine t m.0) k) is ∙ get_or-set_same mine t m.0 _ (omega (arith, l, low'))))
        (λ other. get_or-set_other book t u m.0 _ other ∙ same ∙ sym (get_or-set_other mine t u m.0 _ other))

    pub own_call : (t : ℕ) (op : Op) → t < length s.tasks → Own t → NamesAt (λ r. r ≡ i) op → Agrees i Own (length s.tasks) (length s'.tasks) (step s book t op).0 (step s' mine t op).0
    own_call t op low own named =
        let x = record_at book t in
        let then = replied_same t op own named in
        let same : (u : ℕ) → Own u → record_at (step s book t op).0 u ≡ record_at (step s' mine t op).0 u
        = λ u own'. record_same t u (refused x.place x.count op) (moved s book t op) low (task_low t own low) (a.same u own') ∙ sym (ap (λ (k : Records × Reply). record_at k.0 u) then) in
        let l = a.mine_long in
        let below = task_low t own low in
        let low' : t < length mine = omega (arith, l, below) in record {
          long = length_step s book t op ∙ a.long;
          mine_long = length_step s' mine t op ∙ a.mine_long;
          same = same;
          here = λ u own'. at_after (λ r. r ≡ i) s book t op u (low_of t low) (λ _. named) (a.here u own');
          off = λ u not. at_after (λ r. r ≢ i) s book t op u (low_of t low) (λ (is : u ≡ t). absurd (not (subst Own (sym is) own))) (a.off u not);
          reading = step_shifts s book t op i (low_of t low)
              ∙ ap (λ (k : Reading × Record × Record). shifted_of k.0 i k.1 k.2) (λ j. (a.reading j, a.same t own j, same t own j))
              ∙ sym (step_shifts s' mine t op i low');
        }

    -- ---- a call of another pass
    pub other_call : (t : ℕ) (op : Op) → t < length s.tasks → ¬ Own t → NamesAt (λ r. r ≢ i) op → Agrees i Own (length s.tasks) (length s'.tasks) (step s book t op).0 mine
    other_call t op low not named =
        let x = record_at book t in
        let away : (u : ℕ) → Own u → u ≢ t = λ u own is. not (subst Own is own) in record {
          long = length_step s book t op ∙ a.long;
          mine_long = a.mine_long;
          same = λ u own. replied_else u book t (away u own) (refused x.place x.count op) (moved s book t op) ∙ a.same u own;
          here = λ u own. at_after (λ r. r ≡ i) s book t op u (low_of t low) (λ (is : u ≡ t). absurd (away u own is)) (a.here u own);
          off = λ u not'. at_after (λ r. r ≢ i) s book t op u (low_of t low) (λ _. named) (a.off u not');
          reading = reading_after s book t op i (low_of t low) named (a.off t not) ∙ a.reading;
        }

  -- ---- a whole history
  -- the calls of the pass alone are a history of a book of its own, and both books agree at its end
  pub record Splits (book mine : Records) (h : List Event) : Type 0 where
    pub legal : IsLegalFrom s' mine (calls_of i h)
    pub agrees : Agrees i Own (length s.tasks) (length s'.tasks) (fold (after s) book h) (fold (after s') mine (calls_of i h))

  kept_call : (book mine : Records) (e : Event) (h : List Event) → pass_of e ≡ i → IsLegalFrom s' mine (e ∷ []) → Splits (after s book e) (after s' mine e) h → Splits book mine (e ∷ h)
  kept_call book mine e h is here rest =
      let calls : calls_of i (e ∷ h) ≡ e ∷ calls_of i h = ap (λ b. cond b (e ∷ calls_of i h) (calls_of i h)) (eq-eqb (pass_of e) i is) in record {
        legal = subst (IsLegalFrom s' mine) (sym calls) (here.0, rest.legal);
        agrees = subst (λ l. Agrees i Own (length s.tasks) (length s'.tasks) (fold (after s) (after s book e) h) (fold (after s') mine l)) (sym calls) rest.agrees;
      }

  dropped_call : (book mine : Records) (e : Event) (h : List Event) → pass_of e ≢ i → Splits (after s book e) mine h → Splits book mine (e ∷ h)
  dropped_call book mine e h other rest =
      let calls : calls_of i (e ∷ h) ≡ calls_of i h = ap (λ b. cond b (e ∷ calls_of i h) (calls_of i h)) (ne_eqb (pass_of e) i other) in record {
        legal = subst (IsLegalFrom s' mine) (sym calls) rest.legal;
        agrees = subst (λ l. Agrees i Own (length s.tasks) (length s'.tasks) (fold (after s) (after s book e) h) (fold (after s') mine l)) (sym calls) rest.agrees;
      }

  pub splits : (book mine : Records) (h : List Event) → Agrees i Own (length s.tasks) (length s'.tasks) book mine → All (IsOneSided i Own) h → IsLegalFrom s book h → Splits book mine h
  splits book mine [] a sided legal = record { legal = tt; agrees = a }
  splits book mine (events.Look j r reading ∷ h) a sided legal =
      let e : Event = events.Look j r reading in
      let rest = splits book mine h a (All-tail (IsOneSided i Own) e h sided) legal.1 in
      let here = All-head (IsOneSided i Own) e h sided in
      dite (ℕ_discrete j i)
      (λ is.
      let read : reading_of mine r ≡ reading = ap (reading_of mine) (here is) ∙ sym a.reading ∙ sym (ap (reading_of book) (here is)) ∙ legal.0.1 in
      kept_call book mine e h is ((queue_low r (here is) legal.0.0, read), tt) rest)
      (λ other. dropped_call book mine e h other rest)
  splits book mine (events.Call j t op reply ∷ h) a sided legal =
      let e : Event = events.Call j t op reply in
      let tail = All-tail (IsOneSided i Own) e h sided in
      ⊎_elim
      (λ (own : (j ≡ i) × Own t × NamesAt (λ r. r ≡ i) op).
      kept_call book mine e h own.0 ((task_low t own.1 legal.0.0, op_same op own.2 legal.0.1, sym (reply_same book mine a t op own.1 own.2) ∙ legal.0.2), tt)
      (splits (step s book t op).0 (step s' mine t op).0 h (own_call book mine a t op legal.0.0 own.1 own.2) tail legal.1))
      (λ (else : (j ≢ i) × ¬ Own t × NamesAt (λ r. r ≢ i) op).
      dropped_call book mine e h else.0 (splits (step s book t op).0 mine h (other_call book mine a t op legal.0.0 else.1 else.2) tail legal.1))
      (All-head (IsOneSided i Own) e h sided)
