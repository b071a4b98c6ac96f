-- A book whose origin was moved goes on as it would have.
use Rattle.std.proofs.Common.{◌≡◌, ℕ, ◌+◌, ◌-◌, ◌*◌, ◌<◌, ◌≤◌, ◌^◌, ◌==◌, ◌&&◌, inl, inr, suc, zero, nat_lt, Bool, true, false, cond, List, [], ◌∷◌, fold, length, get_or, set, Option, Some, None, refl, ap, subst, sym, ◌∙◌, arith}
use Rattle.std.specs.List.{position_from}
use Rattle.std.proofs.Math.Nat.{le_of_mul-le-mul_right, mul-le-mul_right, one-le-mul}
use Rattle.std.proofs.lemmas.Bool.{cases_eq, cases_lt, eq-eqb, lt-ltb, le-ltb, ltb-true, ltb-false, ne_eqb}
use Rattle.std.proofs.lemmas.List.{get_or-set_same, get_or-set_other, length-map, length-set}
use native.Mathlib.Nat.{add-mul}
use Rattle.grub_book.specs.Bandwidth.{Reservation, Capacity, bandwidth_of}
use Rattle.grub_book.specs.Server.{woken_of, lag_of, charge_of, recharges_of}
use Rattle.grub_book.specs.declared.server.Server.{Server}
use Rattle.grub_book.specs.Machine.{Machine, queue_at}
use Rattle.grub_book.specs.Op.{IsOp}
use Rattle.grub_book.specs.Sums.{Records, record_at, reading_of}
use Rattle.grub_book.specs.Step.{is_inactive, is_under_claim, refused, refused_block, refused_active, refused_charge, runqueue_of, settled, arrived, charged, lag_moment, step, unless}
use Rattle.grub_book.specs.inside.Steps.{replied}
use Rattle.grub_book.specs.History.{IsLegalFrom, after}
use Rattle.grub_book.specs.Sound.{IsKept, IsSound}
use Rattle.grub_book.specs.Totals.{shifted_of}
use Rattle.grub_book.specs.Rebase.{bound_at, holds_back, is_before, first_held, waits, forgotten, earlier, rebased, book_rebased}
use Rattle.grub_book.specs.Earlier.{op_earlier, reply_earlier, forgotten_of, events_earlier, IsSince, IsLasting, AreSince}
use Rattle.grub_book.specs.declared.rules.TheConstants.{COUNT_MAX}
use Rattle.grub_book.specs.declared.event.Event.{Event}
use Rattle.grub_book.specs.declared.event.Event.TheVariants.{Call, Look}
use Rattle.grub_book.specs.declared.event.Reading.{Reading}
use Rattle.grub_book.specs.declared.op.Op.{Op}
use Rattle.grub_book.specs.declared.op.Op.TheVariants.{Join, Wake, Block, Leave, Timer, Exit, Charge, Retune}
use Rattle.grub_book.specs.declared.place.State.{State}
use Rattle.grub_book.specs.declared.place.State.TheVariants.{Contending, NonContending, Inactive}
use Rattle.grub_book.specs.declared.place.Place.{Place}
use Rattle.grub_book.specs.declared.place.Place.TheVariants.{Away, Gone, On}
use Rattle.grub_book.specs.declared.place.Record.{Record}
use Rattle.grub_book.specs.declared.reply.Reply.{Reply}
use Rattle.grub_book.specs.declared.reply.Reply.TheVariants.{Joined, Woken, Waiting, Asleep, Retired, Charged, Retuned, Elsewhere, Worn, Stale, Early, Full}
use Rattle.grub_book.proofs.Cases.{of_either, of_timer}
use Rattle.grub_book.proofs.Claims.{refused_outside}
use Rattle.grub_book.proofs.Rebasing.{reading_rebased, record_rebased}
use Rattle.grub_book.proofs.Soundness.{moved, on_it, sound_step, step_moved}
use Rattle.grub_book.proofs.Totals.{shifted_set}

-- two numbers less a third compare as they do, where the one that is compared with is no less than it
less_alike : (a b c d : ℕ) → (a < b → c < d) → (b ≤ a → d ≤ c) → nat_lt c d ≡ nat_lt a b
less_alike a b c d less more =
    elim (cases_lt a b) [
      | inl lt ↦ lt-ltb c d (less lt) ∙ sym (lt-ltb a b lt)
      | inr le ↦ le-ltb c d (more le) ∙ sym (le-ltb a b le)
    ]

-- the wake rule's test: what a deadline is before the moment does not matter
woken_test : (by d m q b : ℕ) → by ≤ m → 1 ≤ b → nat_lt ((d - by) * q) (b + (m - by) * q) ≡ nat_lt (d * q) (b + m * q)
woken_test by d m q b since some =
    let later : (m - by) * q + by * q ≡ m * q = sym (add-mul (m - by) by q) ∙ ap (λ n. n * q) (omega (arith, since)) in
    elim (cases_lt d by) [
      | inl before ↦
          let zero : (d - by) * q ≡ 0 = ap (λ n. n * q) (let is : d - by ≡ 0 = omega (arith, before) in is) ∙ (omega arith) in
          let under : d * q ≤ m * q = mul-le-mul_right q (omega (arith, before, since)) in
          less_alike _ _ _ _ (λ _. omega (arith, zero, some)) (λ h. absurd (omega (arith, h, under, some)))
      | inr from ↦
          let own : (d - by) * q + by * q ≡ d * q = sym (add-mul (d - by) by q) ∙ ap (λ n. n * q) (omega (arith, from)) in
          less_alike _ _ _ _ (λ h. omega (arith, h, later, own)) (λ h. omega (arith, h, later, own))
    ]

abbrev back : ℕ → Server → Server
back by s = record s { d = s.d - by }

woken_either : (t : Bool) (by m : ℕ) (s : Server) (p : Reservation) → by ≤ m
    → cond t (record { q = p.runtime; d = m - by + p.period }) (back by s) ≡ back by (cond t (record { q = p.runtime; d = m + p.period }) s)
woken_either true by m s p since = ap (λ d. let w : Server = record { q = p.runtime; d = d } in w) (omega (arith, since))
woken_either false by m s p since = refl

woken_earlier : (by m : ℕ) (s : Server) (p : Reservation) → by ≤ m → 1 ≤ s.q → 1 ≤ p.period → woken_of (back by s) p (m - by) ≡ back by (woken_of s p m)
woken_earlier by m s p since some period =
    let test = woken_test by s.d m p.runtime (s.q * p.period) since (one-le-mul some period) in
    ap (λ t. cond t (record { q = p.runtime; d = m - by + p.period }) (back by s)) test ∙ woken_either (nat_lt (s.d * p.runtime) (s.q * p.period + m * p.runtime)) by m s p since

-- after the wake rule the deadline is no earlier than the moment
woken_after_test : (t : Bool) (m : ℕ) (s : Server) (p : Reservation) → 1 ≤ p.runtime → nat_lt (s.d * p.runtime) (s.q * p.period + m * p.runtime) ≡ t
    → m ≤ (cond t (record { q = p.runtime; d = m + p.period }) s).d
woken_after_test true m s p some is = omega arith
woken_after_test false m s p some is =
    let kept = ltb-false (s.d * p.runtime) (s.q * p.period + m * p.runtime) is in
    let under : m * p.runtime ≤ s.d * p.runtime = omega (arith, kept) in
    le_of_mul-le-mul_right under some

woken_after : (m : ℕ) (s : Server) (p : Reservation) → 1 ≤ p.runtime → m ≤ (woken_of s p m).d
woken_after m s p some = woken_after_test (nat_lt (s.d * p.runtime) (s.q * p.period + m * p.runtime)) m s p some refl

lag_less : (d lag by : ℕ) → d - by - lag ≡ d - lag - by
lag_less d lag by = omega arith

lag_test : (by m z : ℕ) → by ≤ m → nat_lt (m - by) (z - by) ≡ nat_lt m z
lag_test by m z since = less_alike m z (m - by) (z - by) (λ h. omega (arith, h, since)) (λ h. omega (arith, h, since))

charging : (state : State) → refused_charge state ≡ None → state ≡ Contending
charging Contending h = refl
charging NonContending h = absurd cc
charging Inactive h = absurd cc

not_active : (place : Place) (r : ℕ) → refused_active place ≡ None → place ≡ On r Contending → ⊥
not_active place r free is = absurd (let none : refused_active (On r Contending) ≡ None = sym (ap refused_active is) ∙ free in cc)

-- a task, and its count that is forgotten
module _ (by f : ℕ) where
  abbrev pair : Record × Reply → Record × Reply
  pair m = (earlier by f m.0, reply_earlier by f m.1)

  either_pair : (t : Bool) (m n : Record × Reply) → cond t (pair m) (pair n) ≡ pair (cond t m n)
  either_pair true m n = refl
  either_pair false m n = refl

  -- what a record needs for that: a contending task's deadline is not before the origin, and no more is forgotten than there is
  pub record IsAhead (x : Record) : Type 0 where
    pub deadline : (r : ℕ) → x.place ≡ On r Contending → by ≤ x.server.d
    pub count : f ≤ x.count

  -- refusals by place, count and ticket
  outside_fixed : (reply : Reply) → is_under_claim reply ≡ false → reply_earlier by f reply ≡ reply
  outside_fixed (Joined q d) h = absurd cc
  outside_fixed (Woken q d) h = absurd cc
  outside_fixed (Waiting ticket z) h = absurd cc
  outside_fixed (Charged k q d dq) h = absurd cc
  outside_fixed (Early z) h = absurd cc
  outside_fixed reply h = refl

  same_ticket : (count ticket : ℕ) → f ≤ count → f ≤ ticket → (count - f == ticket - f) ≡ (count == ticket)
  same_ticket count ticket a b =
      elim (cases_eq count ticket) [
        | inl is ↦ rw is (eq-eqb (ticket - f) (ticket - f) refl ∙ sym (eq-eqb ticket ticket refl))
        | inr ne ↦ ne_eqb (count - f) (ticket - f) (λ e. ne (omega (arith, a, b, e))) ∙ sym (ne_eqb count ticket ne)
      ]

  block_state : (count : ℕ) (state : State) → count ≤ COUNT_MAX → f ≤ count → (refused_block count state ≡ Some Worn → ⊥) → refused_block (count - f) state ≡ refused_block count state
  block_state count Contending most less fresh =
      elim (cases_eq count COUNT_MAX) [
        | inl is ↦ absurd (fresh (ap (λ t. cond t (Some Worn) None) (eq-eqb count COUNT_MAX is)))
        | inr ne ↦ ap (λ t. cond t (Some Worn) None) (ne_eqb (count - f) COUNT_MAX (omega (arith, most, less, ne)) ∙ sym (ne_eqb count COUNT_MAX ne))
      ]
  block_state count NonContending most less fresh = refl
  block_state count Inactive most less fresh = refl

  block_on : (t : Bool) (s count : ℕ) (state : State) → count ≤ COUNT_MAX → f ≤ count → (cond t (refused_block count state) (Some (Elsewhere s)) ≡ Some Worn → ⊥)
      → cond t (refused_block (count - f) state) (Some (Elsewhere s)) ≡ cond t (refused_block count state) (Some (Elsewhere s))
  block_on true s count state most less fresh = block_state count state most less fresh
  block_on false s count state most less fresh = refl

  same_refusal : (place : Place) (count : ℕ) (op : Op) → count ≤ COUNT_MAX → f ≤ count → IsSince by f op → (refused place count op ≡ Some Worn → ⊥)
      → refused place (count - f) (op_earlier by f op) ≡ refused place count op
  same_refusal Away count (Join r m) most less since fresh = refl
  same_refusal Gone count (Join r m) most less since fresh = refl
  same_refusal (On s state) count (Join r m) most less since fresh = refl
  same_refusal place count (Wake r m) most less since fresh = refl
  same_refusal Away count (Block r m) most less since fresh = refl
  same_refusal Gone count (Block r m) most less since fresh = refl
  same_refusal (On s state) count (Block r m) most less since fresh = block_on (s == r) s count state most less fresh
  same_refusal place count (Charge r dt) most less since fresh = refl
  same_refusal Away count Leave most less since fresh = refl
  same_refusal Gone count Leave most less since fresh = refl
  same_refusal (On s Contending) count Leave most less since fresh = refl
  same_refusal (On s NonContending) count Leave most less since fresh = refl
  same_refusal (On s Inactive) count Leave most less since fresh = refl
  same_refusal Away count (Timer ticket m) most less since fresh = refl
  same_refusal Gone count (Timer ticket m) most less since fresh = refl
  same_refusal (On s Contending) count (Timer ticket m) most less since fresh = refl
  same_refusal (On s NonContending) count (Timer ticket m) most less since fresh = ap (λ t. cond t None (Some Stale)) (same_ticket count ticket less since.0)
  same_refusal (On s Inactive) count (Timer ticket m) most less since fresh = refl
  same_refusal place count (Retune q p) most less since fresh = refl
  same_refusal place count Exit most less since fresh = refl

  same_runqueue : (place : Place) (op : Op) → runqueue_of place (op_earlier by f op) ≡ runqueue_of place op
  same_runqueue place (Join r m) = refl
  same_runqueue place (Wake r m) = refl
  same_runqueue place (Block r m) = refl
  same_runqueue place (Charge r dt) = refl
  same_runqueue Away (Timer ticket m) = refl
  same_runqueue Gone (Timer ticket m) = refl
  same_runqueue (On s state) (Timer ticket m) = refl
  same_runqueue place Leave = refl
  same_runqueue place Exit = refl
  same_runqueue place (Retune q p) = refl

  -- an op that is not refused so
  arrived_earlier : (x : Record) (r m : ℕ) → by ≤ m → 1 ≤ x.server.q → 1 ≤ x.params.period → arrived (earlier by f x) r (m - by) ≡ earlier by f (arrived x r m)
  arrived_earlier x r m since some period = ap (λ (s : Server). record (earlier by f x) { place = On r Contending; server = s }) (woken_earlier by m x.server x.params since some period)

  join_earlier : (t : Bool) (x y : Record) → cond t (earlier by f x, Full) (earlier by f y, Joined (earlier by f y).server.q (earlier by f y).server.d) ≡ pair (cond t (x, Full) (y, Joined y.server.q y.server.d))
  join_earlier true x y = refl
  join_earlier false x y = refl

  abbrev blocked : Record → ℕ → Bool → ℕ → ℕ → Record × Reply
  blocked x r t n z = cond t (record x { place = On r NonContending; count = n }, Waiting n z) (record x { place = On r Inactive }, Asleep)

  block_either : (t : Bool) (x : Record) (r n z : ℕ) → blocked (earlier by f x) r t (n - f) (z - by) ≡ pair (blocked x r t n z)
  block_either true x r n z = refl
  block_either false x r n z = refl

  block_earlier : (x : Record) (r m : ℕ) (queue : Capacity) (now : Reading) → by ≤ m → f ≤ x.count → settled (earlier by f x) queue now (Block r (m - by)) ≡ pair (settled x queue now (Block r m))
  block_earlier x r m queue now since less =
      let z = lag_moment x in
      let more : x.count - f + 1 ≡ x.count + 1 - f = omega (arith, less) in
      ap (λ k. blocked (earlier by f x) r (nat_lt (m - by) k) (x.count - f + 1) k) (lag_less x.server.d (lag_of x.server x.params) by)
      ∙ ap (λ t. blocked (earlier by f x) r t (x.count - f + 1) (z - by)) (lag_test by m z since)
      ∙ ap (λ n. blocked (earlier by f x) r (nat_lt m z) n (z - by)) more
      ∙ block_either (nat_lt m z) x r (x.count + 1) z

  abbrev timed : Record → ℕ → Bool → ℕ → Record × Reply
  timed x r t z = unless (cond t (Some (Early z)) None) x (record x { place = On r Inactive }, Retired)

  timer_either : (t : Bool) (x : Record) (r z : ℕ) → timed (earlier by f x) r t (z - by) ≡ pair (timed x r t z)
  timer_either true x r z = refl
  timer_either false x r z = refl

  timer_earlier : (x : Record) (ticket m : ℕ) (queue : Capacity) (now : Reading) → by ≤ m → settled (earlier by f x) queue now (Timer (ticket - f) (m - by)) ≡ pair (settled x queue now (Timer ticket m))
  timer_earlier x ticket m queue now since =
      let z = lag_moment x in
      let r = runqueue_of x.place (Timer ticket m) in
      ap (λ k. timed (earlier by f x) k (nat_lt (m - by) (lag_moment (earlier by f x))) (lag_moment (earlier by f x))) (same_runqueue x.place (Timer ticket m))
      ∙ ap (λ k. timed (earlier by f x) r (nat_lt (m - by) k) k) (lag_less x.server.d (lag_of x.server x.params) by)
      ∙ ap (λ t. timed (earlier by f x) r t (z - by)) (lag_test by m z since)
      ∙ timer_either (nat_lt m z) x r z

  abbrev taken : Record → ℕ → ℕ → ℕ → Bool → ℕ → Record × Reply
  taken x dq k q t d = charged x dq (cond t (Some (k, record { q = q; d = d })) None)

  charge_either : (t : Bool) (x : Record) (dq k q more : ℕ) → by ≤ x.server.d → nat_lt (x.server.d + more) (2 ^ 32) ≡ t → IsLasting (taken x dq k q t (x.server.d + more)).1
      → taken (earlier by f x) dq k q (nat_lt (x.server.d - by + more) (2 ^ 32)) (x.server.d - by + more) ≡ pair (taken x dq k q t (x.server.d + more))
  charge_either true x dq k q more ahead is lasting =
      let less = ltb-true (x.server.d + more) (2 ^ 32) is in
      ap (λ t. taken (earlier by f x) dq k q t (x.server.d - by + more)) (lt-ltb (x.server.d - by + more) (2 ^ 32) (omega (arith, less)))
      ∙ ap (λ d. taken (earlier by f x) dq k q true d) (let same : x.server.d - by + more ≡ x.server.d + more - by = omega (arith, ahead) in same)
  charge_either false x dq k q more ahead is lasting = absurd lasting

  abbrev tuned : Record → Reservation → Bool → ℕ → Record × Reply
  tuned x p t d = cond t (x, Full) (record x { params = p; server = record { q = p.runtime; d = d } }, Retuned)

  retune_either : (t : Bool) (x : Record) (p : Reservation) → tuned (earlier by f x) p t 0 ≡ pair (tuned x p t 0)
  retune_either true x p = refl
  retune_either false x p = ap (λ d. tuned (earlier by f x) p false d) (let zero : 0 ≡ 0 - by = omega arith in zero)

  settle_earlier : (queue : Capacity) (now : Reading) (x : Record) (op : Op) → IsAhead x → IsSince by f op → 1 ≤ x.server.q → 1 ≤ x.params.period → refused x.place x.count op ≡ None → IsLasting (settled x queue now op).1
      → settled (earlier by f x) queue now (op_earlier by f op) ≡ pair (settled x queue now op)
  settle_earlier queue now x (Join r m) ahead since some period free lasting =
      let full = nat_lt queue.most (now.this + bandwidth_of x.params) in
      ap (λ (y : Record). cond full (earlier by f x, Full) (y, Joined y.server.q y.server.d)) (arrived_earlier x r m since some period) ∙ join_earlier full x (arrived x r m)
  settle_earlier queue now x (Wake r m) ahead since some period free lasting =
      ap (λ (y : Record). let outcome : Record × Reply = (y, Woken y.server.q y.server.d) in outcome) (arrived_earlier x r m since some period)
  settle_earlier queue now x (Block r m) ahead since some period free lasting = block_earlier x r m queue now since ahead.count
  settle_earlier queue now x (Charge r dt) ahead since some period free lasting =
      let dq = charge_of dt (bandwidth_of x.params) queue now.running now.this in
      let k = recharges_of x.server x.params dq in
      let on = on_it r x.place refused_charge free in
      let front = ahead.deadline r (on.1 ∙ ap (λ state. On r state) (charging on.0 on.2)) in
      charge_either (nat_lt (x.server.d + k * x.params.period) (2 ^ 32)) x dq k (x.server.q + k * x.params.runtime - dq) (k * x.params.period) front refl lasting
  settle_earlier queue now x Leave ahead since some period free lasting = refl
  settle_earlier queue now x (Timer ticket m) ahead since some period free lasting = timer_earlier x ticket m queue now since.1
  settle_earlier queue now x (Retune q p) ahead since some period free lasting =
      let params : Reservation = record { runtime = q; period = p } in
      retune_either (is_inactive x.place && nat_lt (queue.most + bandwidth_of x.params) (now.this + bandwidth_of params)) x params
  settle_earlier queue now x Exit ahead since some period free lasting = refl

  -- and what it needs stays
  arrived_ahead : (x : Record) (r m : ℕ) → IsAhead x → by ≤ m → 1 ≤ x.params.runtime → IsAhead (arrived x r m)
  arrived_ahead x r m ahead since some =
      record { deadline = λ k e. let late = woken_after m x.server x.params some in omega (arith, late, since); count = ahead.count }

  charged_ahead : (t : Bool) (x : Record) (dq k q more : ℕ) → IsAhead x → IsAhead (taken x dq k q t (x.server.d + more)).0
  charged_ahead true x dq k q more ahead = record { deadline = λ r e. let front = ahead.deadline r e in omega (arith, front); count = ahead.count }
  charged_ahead false x dq k q more ahead = ahead

  ahead_settled : (queue : Capacity) (now : Reading) (x : Record) (op : Op) → IsAhead x → IsSince by f op → 1 ≤ x.params.runtime → refused x.place x.count op ≡ None → IsAhead (settled x queue now op).0
  ahead_settled queue now x (Join r m) ahead since some free =
      let y = arrived x r m in
      of_either (λ (m : Record × Reply). IsAhead m.0) (nat_lt queue.most (now.this + bandwidth_of x.params)) (x, Full) (y, Joined y.server.q y.server.d) ahead (arrived_ahead x r m ahead since some)
  ahead_settled queue now x (Wake r m) ahead since some free = arrived_ahead x r m ahead since some
  ahead_settled queue now x (Block r m) ahead since some free =
      let less = ahead.count in
      of_either (λ (m : Record × Reply). IsAhead m.0) (nat_lt m (lag_moment x)) (record x { place = On r NonContending; count = x.count + 1 }, Waiting (x.count + 1) (lag_moment x)) (record x { place = On r Inactive }, Asleep)
      (record { deadline = λ k e. absurd cc; count = omega (arith, less) })
      (record { deadline = λ k e. absurd cc; count = less })
  ahead_settled queue now x (Charge r dt) ahead since some free =
      let dq = charge_of dt (bandwidth_of x.params) queue now.running now.this in
      let k = recharges_of x.server x.params dq in
      charged_ahead (nat_lt (x.server.d + k * x.params.period) (2 ^ 32)) x dq k (x.server.q + k * x.params.runtime - dq) (k * x.params.period) ahead
  ahead_settled queue now x Leave ahead since some free = record { deadline = λ k e. absurd cc; count = ahead.count }
  ahead_settled queue now x (Timer ticket m) ahead since some free =
      of_timer (λ (m : Record × Reply). IsAhead m.0) (nat_lt m (lag_moment x)) x (lag_moment x) (record x { place = On (runqueue_of x.place (Timer ticket m)) Inactive }, Retired) ahead
      (record { deadline = λ k e. absurd cc; count = ahead.count })
  ahead_settled queue now x (Retune q p) ahead since some free =
      let params : Reservation = record { runtime = q; period = p } in
      of_either (λ (m : Record × Reply). IsAhead m.0) (is_inactive x.place && nat_lt (queue.most + bandwidth_of x.params) (now.this + bandwidth_of params)) (x, Full) (record x { params = params; server = record { q = q; d = 0 } }, Retuned) ahead
      (record { deadline = λ k e. absurd (not_active x.place k free e); count = ahead.count })
  ahead_settled queue now x Exit ahead since some free = record { deadline = λ k e. absurd cc; count = ahead.count }

-- a book whose tasks are so much earlier
pub record IsEarlier (by : ℕ) (counts : ℕ → ℕ) (book other : Records) : Type 0 where
  pub as_many : length other ≡ length book
  pub records : (t : ℕ) → t < length book → record_at other t ≡ earlier by (counts t) (record_at book t)
  pub readings : (r : ℕ) → reading_of other r ≡ reading_of book r
  pub ahead : (t : ℕ) → t < length book → IsAhead by (counts t) (record_at book t)

abbrev nobody : Record
nobody = record { place = Gone; count = 0; params = record { runtime = 0; period = 0 }; server = record { q = 0; d = 0 } }

pub fits_earlier : (s : Machine) (by f : ℕ) (op : Op) → IsOp s op → IsOp s (op_earlier by f op)
fits_earlier s by f (Join r m) fits = (fits.0, let most = fits.1 in omega (arith, most))
fits_earlier s by f (Wake r m) fits = (fits.0, let most = fits.1 in omega (arith, most))
fits_earlier s by f (Block r m) fits = (fits.0, let most = fits.1 in omega (arith, most))
fits_earlier s by f Leave fits = fits
fits_earlier s by f (Timer ticket m) fits = omega (arith, fits)
fits_earlier s by f Exit fits = fits
fits_earlier s by f (Charge r dt) fits = fits
fits_earlier s by f (Retune q p) fits = fits

module _ (s : Machine) (by : ℕ) (counts : ℕ → ℕ) where
  -- one task's new record in both
  pub set_earlier : (book other : Records) (t : ℕ) (y : Record) → IsEarlier by counts book other → t < length book → IsAhead by (counts t) y → IsEarlier by counts (set book t y) (set other t (earlier by (counts t) y))
  set_earlier book other t y is here ahead =
      let z = earlier by (counts t) y in
      let there : t < length other = let same = is.as_many in omega (arith, here, same) in
      record {
        as_many = length-set other t z ∙ is.as_many ∙ sym (length-set book t y);
        records = λ u inside.
            let within : u < length book = omega (arith, inside, length-set book t y) in
            elim (cases_eq u t) [
              | inl same ↦ rw same (get_or-set_same other t z nobody there ∙ ap (earlier by (counts t)) (sym (get_or-set_same book t y nobody here)))
              | inr ne ↦ get_or-set_other other t u z nobody ne ∙ is.records u within ∙ ap (earlier by (counts u)) (sym (get_or-set_other book t u y nobody ne))
            ];
        readings = λ r.
            sym (shifted_set other t z r there) ∙ ap (λ (n : Reading). shifted_of n r (record_at other t) z) (is.readings r)
            ∙ ap (λ (x : Record). shifted_of (reading_of book r) r x z) (is.records t here) ∙ shifted_set book t y r here;
        ahead = λ u inside.
            let within : u < length book = omega (arith, inside, length-set book t y) in
            elim (cases_eq u t) [
              | inl same ↦ rw same (subst (IsAhead by (counts t)) (sym (get_or-set_same book t y nobody here)) ahead)
              | inr ne ↦ subst (IsAhead by (counts u)) (sym (get_or-set_other book t u y nobody ne)) (is.ahead u within)
            ];
      }

  module _ (book other : Records) (sound : IsSound s book) (is : IsEarlier by counts book other) (t : ℕ) (task : t < length s.tasks) (op : Op) (since : IsSince by (counts t) op) (lasting : IsLasting (step s book t op).1) where
    abbrev f : ℕ
    f = counts t

    abbrev x : Record
    x = record_at book t

    abbrev told : Op
    told = op_earlier by f op

    here : t < length book
    here = let each = sound.one_each in omega (arith, task, each)

    kept : IsKept s x
    kept = sound.kept t task

    fresh : refused x.place x.count op ≡ Some Worn → ⊥
    fresh worn = subst (λ (o : Option Reply). IsLasting (replied book t o (moved s book t op)).1) worn lasting

    refusal : refused (record_at other t).place (record_at other t).count told ≡ refused x.place x.count op
    refusal = ap (λ (z : Record). refused z.place z.count told) (is.records t here) ∙ same_refusal by f x.place x.count op kept.count (is.ahead t here).count since fresh

    both : refused x.place x.count op ≡ None → moved s other t told ≡ pair by f (moved s book t op)
    both free =
        let r = runqueue_of x.place op in
        let lasts : IsLasting (moved s book t op).1 = subst (λ (z : Records × Reply). IsLasting z.1) (step_moved s book t op free) lasting in
        ap (λ (z : Record). settled z (queue_at s (runqueue_of z.place told)) (reading_of other (runqueue_of z.place told)) told) (is.records t here)
        ∙ ap (λ k. settled (earlier by f x) (queue_at s k) (reading_of other k) told) (same_runqueue by f x.place op)
        ∙ ap (λ (n : Reading). settled (earlier by f x) (queue_at s r) n told) (is.readings r)
        ∙ settle_earlier by f (queue_at s r) (reading_of book r) x op (is.ahead t here) since kept.server.fits.some kept.reservation.period.0 free lasts

    abbrev Goes : Records × Reply → Records × Reply → Type 0
    Goes now then = (then.1 ≡ reply_earlier by f now.1) × IsEarlier by counts now.0 then.0

    goes_by : (o : Option Reply) → refused x.place x.count op ≡ o → Goes (replied book t o (moved s book t op)) (replied other t o (moved s other t told))
    goes_by (Some reply) e = (sym (outside_fixed by f reply (refused_outside x.place x.count op reply e)), is)
    goes_by None e =
        let y = moved s book t op in
        let r = runqueue_of x.place op in
        let front = ahead_settled by f (queue_at s r) (reading_of book r) x op (is.ahead t here) since kept.reservation.runtime.0 e in
        let set : Goes (set book t y.0, y.1) (set other t (earlier by f y.0), reply_earlier by f y.1) = (refl, set_earlier book other t y.0 is here front) in
        subst (λ (m : Record × Reply). Goes (replied book t None y) (replied other t None m)) (sym (both e)) set

    pub goes : Goes (step s book t op) (step s other t told)
    goes =
        let o = refused x.place x.count op in
        subst (λ (p : Option Reply). Goes (step s book t op) (replied other t p (moved s other t told))) (sym refusal) (goes_by o refl)

  pub goes_on : (book other : Records) (h : List Event) → IsSound s book → IsEarlier by counts book other → IsLegalFrom s book h → AreSince by counts h
      → IsLegalFrom s other (events_earlier by counts h) × IsEarlier by counts (fold (after s) book h) (fold (after s) other (events_earlier by counts h))
  goes_on book other [] sound is legal since = (tt, is)
  goes_on book other (Call pass t op reply ∷ h) sound is legal since =
      let lasting : IsLasting (step s book t op).1 = subst IsLasting (sym legal.0.2) since.0.1 in
      let one = goes book other sound is t legal.0.0 op since.0.0 lasting in
      let rest = goes_on (step s book t op).0 (step s other t (op_earlier by (counts t) op)).0 h (sound_step s book t op sound legal.0.0 legal.0.1) one.1 legal.1 since.1 in
      (((legal.0.0, fits_earlier s by (counts t) op legal.0.1, one.0 ∙ ap (reply_earlier by (counts t)) legal.0.2), rest.0), rest.1)
  goes_on book other (Look pass r reading ∷ h) sound is legal since =
      let rest = goes_on book other h sound is legal.1 since.1 in
      (((legal.0.0, is.readings r ∙ legal.0.1), rest.0), rest.1)

-- at the rebase
free_first : (b : Bool) (i : ℕ) (rest : Option ℕ) → cond b (Some i) rest ≡ None → (b ≡ false) × (rest ≡ None)
free_first true i rest h = absurd cc
free_first false i rest h = (refl, h)

free_each : {A : Type 0} (test : A → Bool) (i : ℕ) (xs : List A) (k : ℕ) (d : A) → position_from test i xs ≡ None → k < length xs → test (get_or xs k d) ≡ false
free_each test i [] k d none here = absurd (omega (arith, here))
free_each test i (x ∷ xs) zero d none here = (free_first (test x) i (position_from test (i + 1) xs) none).0
free_each test i (x ∷ xs) (suc k) d none here = free_each test (i + 1) xs k d (free_first (test x) i (position_from test (i + 1) xs) none).1 (omega (arith, here))

forgets_less : (t : Bool) (n : ℕ) → cond t 0 n ≤ n
forgets_less true n = omega arith
forgets_less false n = omega arith

ahead_at : (by : ℕ) (x : Record) → holds_back by x ≡ false → IsAhead by (forgotten x) x
ahead_at by x free =
    record {
      deadline = λ r e.
          let late : nat_lt x.server.d by ≡ false = sym (ap (λ (p : Place). is_before (bound_at p x) by) e) ∙ free in
          ltb-false x.server.d by late;
      count = forgets_less (waits x.place) x.count;
    }

pub rebased_earlier : (by : ℕ) (book : Records) → first_held by book ≡ None → IsEarlier by (forgotten_of book) book (book_rebased by book)
rebased_earlier by book free =
    record {
      as_many = length-map book (rebased by);
      records = λ t here. record_rebased by book t here;
      readings = reading_rebased by book;
      ahead = λ t here. ahead_at by (record_at book t) (free_each (holds_back by) 0 book t nobody free here);
    }

pub rebased_goes_on : (s : Machine) (book : Records) (by : ℕ) (h : List Event) → IsSound s book → first_held by book ≡ None → IsLegalFrom s book h → AreSince by (forgotten_of book) h
    → IsLegalFrom s (book_rebased by book) (events_earlier by (forgotten_of book) h) × IsEarlier by (forgotten_of book) (fold (after s) book h) (fold (after s) (book_rebased by book) (events_earlier by (forgotten_of book) h))
rebased_goes_on s book by h sound free legal since = goes_on s by (forgotten_of book) book (book_rebased by book) h sound (rebased_earlier by book free) legal since
