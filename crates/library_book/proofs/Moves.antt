-- A move over memory that is a book.
use Rattle.std.proofs.Common.{◌≡◌, ◌≢◌, inl, inr, true, false, Bool, cond, ℕ, ◌+◌, ◌-◌, ◌<◌, ◌≤◌, ◌==◌, nat_lt, List, length, get_or, set, map, Some, None, refl, sym, ap, subst, ◌∙◌, arith}
use Rattle.std.proofs.lemmas.Bool.{cases_eq, eq-eqb, eqb-true, le-ltb, lt-ltb, ne_eqb}
use Rattle.std.proofs.lemmas.List.{get_or-map, get_or-set_same, get_or-set_other, length-set, map-set, set-get_or}
use Rattle.grub_book.specs.Bandwidth.{Capacity, bandwidth_of}
use Rattle.grub_book.specs.Machine.{Machine, queue_at}
use Rattle.grub_book.specs.Sums.{Records, record_at, share_of, is_on, is_active_on, reading_of, running_of, this_of}
use Rattle.grub_book.specs.Sound.{IsKept}
use Rattle.grub_book.specs.Step.{refused_charge, runqueue_of, Refuses}
use Rattle.grub_book.specs.declared.op.Op.TheVariants.{Leave}
use Rattle.grub_book.specs.declared.place.State.{State}
use Rattle.grub_book.specs.declared.place.State.TheVariants.{Contending, NonContending, Inactive}
use Rattle.grub_book.specs.declared.place.Place.{Place}
use Rattle.grub_book.specs.declared.place.Place.TheVariants.{Away, Gone, On}
use Rattle.grub_book.specs.declared.place.Record.{Record}
use Rattle.grub_book.specs.declared.event.Reading.{Reading}
use Rattle.grub_book.specs.declared.reply.Reply.{Reply}
use Rattle.grub_book.specs.declared.reply.Reply.TheVariants.{AlreadyOn, Full, Gone as GoneReply, NotContending, NotOn}
use Rattle.grub_book.proofs.Tallies.{tally_set}
use Rattle.grub_book.proofs.Totals.{same_sums}
use Rattle.library_book.specs.Asked.{reply_of}
use Rattle.library_book.specs.Move.{IsMovable, refused_move, moved_to, moved_in, move_step, reply_from, unless_refused}
use Rattle.library_book.specs.Memory.{place_of, record_of, records_of, constants_of, reading_in, IsBook}
use Rattle.grub_book.specs.Totals.{Counts}
use Rattle.library_book.specs.inside.Moves.{no_task, task_on, IsMoving}
use Rattle.library_book.specs.declared.moving.Outcome.TheVariants.{Granted}
use Rattle.library_book.specs.declared.memory.NdTask.{NdTask}
use Rattle.library_book.specs.declared.memory.NdRunqueue.{NdRunqueue}
use Rattle.library_book.proofs.Stepping.{in_records, record_is, queue_count, task, states_set}

pub some_same : (a b : Reply) → Some a ≡ Some b → a ≡ b
some_same a b e = cc

free_test : (b : Bool) (r from : ℕ) (state : State) → (from == r) ≡ b → cond b (Some (AlreadyOn from)) (refused_charge state) ≡ None → (at : ℕ) × (On from state ≡ On at Contending) × (at ≢ r)
free_test true r from state e h = absurd cc
free_test false r from Contending e h = (from, refl, λ is. absurd (let yes : (from == r) ≡ true = eq-eqb from r is in cc))
free_test false r from NonContending e h = absurd cc
free_test false r from Inactive e h = absurd cc

-- a move that the place does not refuse is of a task that contends elsewhere
pub free_place : (r : ℕ) (place : Place) → refused_move r place ≡ None → (at : ℕ) × (place ≡ On at Contending) × (at ≢ r)
free_place r Away h = absurd cc
free_place r Gone h = absurd cc
free_place r (On from state) h = free_test (from == r) r from state refl h

contending_test : (a b c d : Bool) (queue from : ℕ) → cond a Away (cond b (On queue Contending) (cond c (On queue NonContending) (cond d (On queue Inactive) Gone))) ≡ On from Contending → b ≡ true
contending_test true b c d queue from h = absurd cc
contending_test false true c d queue from h = refl
contending_test false false true d queue from h = absurd cc
contending_test false false false true queue from h = absurd cc
contending_test false false false false queue from h = absurd cc

contending_state : (state queue from : ℕ) → place_of state queue ≡ On from Contending → state ≡ 1
contending_state state queue from h = eqb-true state 1 (contending_test (state == 0) (state == 1) (state == 2) (state == 3) queue from h)

share_most : (b : Bool) (n : ℕ) → cond b n 0 ≤ n
share_most true n = omega arith
share_most false n = omega arith

-- the constants stay where a runqueue's memory becomes another with the same
capacities_set : (queues : List NdRunqueue) (k : ℕ) (q d : NdRunqueue) → k < length queues → constants_of q ≡ constants_of (get_or queues k d) → map constants_of (set queues k q) ≡ map constants_of queues
capacities_set queues k q d there same =
    let cell = get_or queues k d in
    map-set constants_of queues k q ∙ ap (λ (c : Capacity). set (map constants_of queues) k c) (same ∙ sym (get_or-map constants_of queues k d (constants_of cell) there)) ∙ set-get_or (map constants_of queues) k (constants_of cell)

-- what a move is answered
module _ (s : Machine) (records : Records) (t r : ℕ) where
  abbrev mover : Record
  mover = record_at records t

  abbrev its_bw : ℕ
  its_bw = bandwidth_of mover.params

  pub move_refused : (reply : Reply) → refused_move r mover.place ≡ Some reply → (records, reply_of reply) ≡ move_step s records t r
  move_refused reply is = sym (ap (λ o. unless_refused o records (moved_in s records t r)) is)

  move_free : refused_move r mover.place ≡ None → moved_in s records t r ≡ move_step s records t r
  move_free is = sym (ap (λ o. unless_refused o records (moved_in s records t r)) is)

  pub move_full : refused_move r mover.place ≡ None → (queue_at s r).most < this_of records r + its_bw → (records, reply_of Full) ≡ move_step s records t r
  move_full free full =
      let test : nat_lt (queue_at s r).most (this_of records r + its_bw) ≡ true = lt-ltb (queue_at s r).most (this_of records r + its_bw) full in
      sym (ap (λ b. cond b (records, reply_of Full) (set records t (moved_to r mover), reply_from (runqueue_of mover.place Leave))) test) ∙ move_free free

  module _ (from : ℕ) (place : mover.place ≡ On from Contending) (room : this_of records r + its_bw ≤ (queue_at s r).most) where
    abbrev arrived : Record
    arrived = moved_to r mover

    pub move_granted : refused_move r mover.place ≡ None → (set records t arrived, reply_from from) ≡ move_step s records t r
    move_granted free =
        let test : nat_lt (queue_at s r).most (this_of records r + its_bw) ≡ false = le-ltb (queue_at s r).most (this_of records r + its_bw) room in
        let left : runqueue_of mover.place Leave ≡ from = ap (λ w. runqueue_of w Leave) place in
        ap (λ n. (set records t arrived, reply_from n)) (sym left) ∙ sym (ap (λ b. cond b (records, reply_of Full) (set records t arrived, reply_from (runqueue_of mover.place Leave))) test) ∙ move_free free

-- the sums where a task that contends elsewhere is put on runqueue r
module _ (records : Records) (t : ℕ) (in_book : t < length records) (r from : ℕ) (place : (record_at records t).place ≡ On from Contending) (ne : from ≢ r) where
  abbrev x : Record
  x = record_at records t

  abbrev u : ℕ
  u = bandwidth_of x.params

  abbrev m : Record
  m = moved_to r x

  on_was : (k : ℕ) → share_of (is_on k) x ≡ cond (from == k) u 0
  on_was k = ap (λ w. cond (is_on k w) u 0) place

  active_was : (k : ℕ) → share_of (is_active_on k) x ≡ cond (from == k) u 0
  active_was k = ap (λ w. cond (is_active_on k w) u 0) place

  -- what the task adds to its old runqueue goes, and comes to the other
  module _ (k : ℕ) where
    on_both : this_of (set records t m) k + cond (from == k) u 0 ≡ this_of records k + cond (r == k) u 0
    on_both = ap (λ n. this_of (set records t m) k + n) (sym (on_was k)) ∙ tally_set (is_on k) records t m in_book

    active_both : running_of (set records t m) k + cond (from == k) u 0 ≡ running_of records k + cond (r == k) u 0
    active_both = ap (λ n. running_of (set records t m) k + n) (sym (active_was k)) ∙ tally_set (is_active_on k) records t m in_book

  is_r : (r == r) ≡ true
  is_r = eq-eqb r r refl

  is_from : (from == from) ≡ true
  is_from = eq-eqb from from refl

  not_r : (from == r) ≡ false
  not_r = ne_eqb from r ne

  not_from : (r == from) ≡ false
  not_from = ne_eqb r from (λ e. ne (sym e))

  pub less_left : (running_of (set records t m) from + u ≡ running_of records from) × (this_of (set records t m) from + u ≡ this_of records from)
  less_left =
      let on : this_of (set records t m) from + u ≡ this_of records from + 0 = rw (is_from, not_from) at (on_both from) in
      let active : running_of (set records t m) from + u ≡ running_of records from + 0 = rw (is_from, not_from) at (active_both from) in
      (omega (arith, active), omega (arith, on))

  pub more_reached : (running_of (set records t m) r ≡ running_of records r + u) × (this_of (set records t m) r ≡ this_of records r + u)
  more_reached =
      let on : this_of (set records t m) r + 0 ≡ this_of records r + u = rw (is_r, not_r) at (on_both r) in
      let active : running_of (set records t m) r + 0 ≡ running_of records r + u = rw (is_r, not_r) at (active_both r) in
      (omega (arith, active), omega (arith, on))

  pub sums_left : reading_of (set records t m) from ≡ record { running = running_of records from - u; this = this_of records from - u }
  sums_left =
      let active = less_left.0 in
      let on = less_left.1 in
      same_sums _ _ _ _ (omega (arith, active)) (omega (arith, on))

  pub sums_reached : reading_of (set records t m) r ≡ record { running = running_of records r + u; this = this_of records r + u }
  sums_reached = same_sums _ _ _ _ more_reached.0 more_reached.1

  pub sums_other : (k : ℕ) → k ≢ from → k ≢ r → reading_of (set records t m) k ≡ reading_of records k
  sums_other k nf nr =
      let a : (from == k) ≡ false = ne_eqb from k (λ e. nf (sym e)) in
      let b : (r == k) ≡ false = ne_eqb r k (λ e. nr (sym e)) in
      let on : this_of (set records t m) k + 0 ≡ this_of records k + 0 = rw (a, b) at (on_both k) in
      let active : running_of (set records t m) k + 0 ≡ running_of records k + 0 = rw (a, b) at (active_both k) in
      same_sums _ _ _ _ (omega (arith, active)) (omega (arith, on))

-- the laws of a move
free_movable : (s : Machine) (book : Records) (t r from : ℕ) → IsMovable s book t r from → refused_move r (record_at book t).place ≡ None
free_movable s book t r from it =
    ap (refused_move r) it.place ∙ ap (λ b. cond b (Some (AlreadyOn from)) None) (ne_eqb from r it.elsewhere)

pub law_granted : (s : Machine) (book : Records) (t r from : ℕ) → IsMovable s book t r from → move_step s book t r ≡ (set book t (moved_to r (record_at book t)), reply_from from)
law_granted s book t r from it = sym (move_granted s book t r from it.place it.room (free_movable s book t r from it))

after_move : (s : Machine) (book : Records) (t r from : ℕ) → IsMovable s book t r from → set book t (moved_to r (record_at book t)) ≡ (move_step s book t r).0
after_move s book t r from it = ap (λ z. z.0) (sym (law_granted s book t r from it))

pub law_left : (s : Machine) (book : Records) (t r from : ℕ) → t < length book → IsMovable s book t r from
    → (running_of (move_step s book t r).0 from + bandwidth_of (record_at book t).params ≡ running_of book from) × (this_of (move_step s book t r).0 from + bandwidth_of (record_at book t).params ≡ this_of book from)
law_left s book t r from here it =
    subst (λ (then : Records). (running_of then from + bandwidth_of (record_at book t).params ≡ running_of book from) × (this_of then from + bandwidth_of (record_at book t).params ≡ this_of book from)) (after_move s book t r from it)
    (less_left book t here r from it.place it.elsewhere)

pub law_reached : (s : Machine) (book : Records) (t r from : ℕ) → t < length book → IsMovable s book t r from
    → (running_of (move_step s book t r).0 r ≡ running_of book r + bandwidth_of (record_at book t).params) × (this_of (move_step s book t r).0 r ≡ this_of book r + bandwidth_of (record_at book t).params)
law_reached s book t r from here it =
    subst (λ (then : Records). (running_of then r ≡ running_of book r + bandwidth_of (record_at book t).params) × (this_of then r ≡ this_of book r + bandwidth_of (record_at book t).params)) (after_move s book t r from it)
    (more_reached book t here r from it.place it.elsewhere)

pub law_others : (s : Machine) (book : Records) (t r from k : ℕ) → t < length book → IsMovable s book t r from → k ≢ from → k ≢ r → reading_of (move_step s book t r).0 k ≡ reading_of book k
law_others s book t r from k here it nf nr =
    subst (λ (then : Records). reading_of then k ≡ reading_of book k) (after_move s book t r from it) (sums_other book t here r from it.place it.elsewhere k nf nr)

module _ (s : Machine) (tasks : List NdTask) (queues : List NdRunqueue) (book : IsBook s tasks queues) (t : ℕ) (here : t < length tasks) (r : ℕ) (there : r < length queues) where
  abbrev records : Records
  records = records_of tasks

  abbrev held : Record
  held = record_at records t

  abbrev bw : ℕ
  bw = bandwidth_of held.params

  in_book : t < length records
  in_book = in_records s tasks queues book t here

  there_setup : r < length s.queues
  there_setup = omega (arith, there, queue_count s tasks queues book)

  module _ (from : ℕ) (place : held.place ≡ On from Contending) (ne : from ≢ r) (room : this_of records r + bw ≤ (queue_at s r).most) where
    abbrev new : Record
    new = moved_to r held

    -- the task's memory
    abbrev y : NdTask
    y = task_on tasks t r

    put : record_of y ≡ new
    put =
        let is : record_of (get_or tasks t no_task) ≡ held = record_is s tasks queues book t here no_task in
        let was : place_of (get_or tasks t no_task).state (get_or tasks t no_task).queue ≡ On from Contending = ap (λ (z : Record). z.place) is ∙ place in
        let state : (get_or tasks t no_task).state ≡ 1 = contending_state _ _ from was in
        let on : place_of (get_or tasks t no_task).state r ≡ On r Contending = ap (λ n. place_of n r) state in
        ap (λ (p : Place). record (record_of (get_or tasks t no_task)) { place = p }) on ∙ ap (λ (z : Record). record z { place = On r Contending }) is

    pub records_moved : records_of (set tasks t y) ≡ set records t new
    records_moved = map-set record_of tasks t y ∙ ap (λ (z : Record). set records t z) put

    kept_moved : (j : ℕ) → j < length s.tasks → IsKept s (record_at (set records t new) j)
    kept_moved j inside =
        let was = book.sound.kept t (task s tasks queues book t here) in
        let kept : IsKept s new = record { reservation = was.reservation; server = was.server; count = was.count; there = there_setup } in
        elim (cases_eq j t) [
          | inl same ↦ subst (λ (i : ℕ). IsKept s (record_at (set records t new) i)) (sym same) (subst (IsKept s) (sym (get_or-set_same records t new _ in_book)) kept)
          | inr other ↦ subst (IsKept s) (sym (get_or-set_other records t j new _ other)) (book.sound.kept j inside)
        ]

    admitted_moved : (k : ℕ) → k < length s.queues → this_of (set records t new) k ≤ (queue_at s k).most
    admitted_moved k inside =
        let both = on_both records t in_book r from place ne k in
        elim (cases_eq r k) [
          | inl same ↦
              let most = share_most (r == k) bw in
              let space : this_of records k + bw ≤ (queue_at s k).most = subst (λ (j : ℕ). this_of records j + bw ≤ (queue_at s j).most) same room in
              omega (arith, both, most, space)
          | inr other ↦
              let none : (r == k) ≡ false = ne_eqb r k other in
              let fewer : this_of (set records t new) k + cond (from == k) bw 0 ≡ this_of records k + 0 = rw none at both in
              let was = book.sound.admitted k inside in
              omega (arith, fewer, was)
        ]

    module _ (left reached d : NdRunqueue) (from_there : from < length queues)
        (left_constants : constants_of left ≡ constants_of (get_or queues from d)) (reached_constants : constants_of reached ≡ constants_of (get_or queues r d))
        (left_sums : reading_in left ≡ record { running = (reading_in (get_or queues from d)).running - bw; this = (reading_in (get_or queues from d)).this - bw })
        (reached_sums : reading_in reached ≡ record { running = (reading_in (get_or queues r d)).running + bw; this = (reading_in (get_or queues r d)).this + bw }) where
      abbrev once : List NdRunqueue
      once = set queues from left

      still_there : r < length once
      still_there = omega (arith, there, length-set queues from left)

      capacities_after : map constants_of (set once r reached) ≡ s.queues
      capacities_after =
          let as_it_was : get_or once r d ≡ get_or queues r d = get_or-set_other queues from r left d (λ e. ne (sym e)) in
          capacities_set once r reached d still_there (reached_constants ∙ ap constants_of (sym as_it_was)) ∙ capacities_set queues from left d from_there left_constants ∙ book.capacities

      totals_after : (k : ℕ) (e : NdRunqueue) → k < length (set once r reached) → reading_in (get_or (set once r reached) k e) ≡ reading_of (set records t new) k
      totals_after k e inside =
          let within : k < length queues = omega (arith, inside, length-set once r reached, length-set queues from left) in
          elim (cases_eq k r) [
            | inl same ↦
                subst (λ (j : ℕ). reading_in (get_or (set once r reached) j e) ≡ reading_of (set records t new) j) (sym same)
                (ap reading_in (get_or-set_same once r reached e still_there) ∙ reached_sums ∙ ap (λ (n : Reading). record { running = n.running + bw; this = n.this + bw }) (book.totals r d there) ∙ sym (sums_reached records t in_book r from place ne))
            | inr other ↦
                let first : get_or (set once r reached) k e ≡ get_or once k e = get_or-set_other once r k reached e other in
                elim (cases_eq k from) [
                  | inl same ↦
                      ap reading_in first ∙ subst (λ (j : ℕ). reading_in (get_or once j e) ≡ reading_of (set records t new) j) (sym same)
                      (ap reading_in (get_or-set_same queues from left e from_there) ∙ left_sums ∙ ap (λ (n : Reading). record { running = n.running - bw; this = n.this - bw }) (book.totals from d from_there) ∙ sym (sums_left records t in_book r from place ne))
                  | inr apart ↦ ap reading_in (first ∙ get_or-set_other queues from k left e apart) ∙ book.totals k e within ∙ sym (sums_other records t in_book r from place ne k apart other)
                ]
          ]

      pub book_moved : IsBook s (set tasks t y) (set once r reached)
      book_moved =
          record {
            machine = book.machine;
            states = states_set tasks t y book.states (book.states t no_task here);
            sound = rw records_moved (record { one_each = length-set records t new ∙ book.sound.one_each; kept = kept_moved; admitted = admitted_moved });
            capacities = capacities_after;
            totals = λ k e inside. totals_after k e inside ∙ ap (λ (rs : Records). reading_of rs k) (sym records_moved);
          }

  capacity_at : (d : NdRunqueue) → queue_at s r ≡ constants_of (get_or queues r d)
  capacity_at d = ap (λ (cs : List Capacity). get_or cs r (record { most = 0; extra = 0 })) (sym book.capacities) ∙ get_or-map constants_of queues r d _ there

  -- what a granted move writes, from what was read
  pub moving_granted : (d : NdRunqueue) (x : Record) (from share : ℕ) (queue : Capacity) (near far : Reading) → x ≡ record_at records t → refused_move r x.place ≡ None → from ≡ runqueue_of x.place Leave → from < length queues
      → near ≡ reading_in (get_or queues from d) → queue ≡ constants_of (get_or queues r d) → far ≡ reading_in (get_or queues r d) → share ≡ bandwidth_of x.params → far.this + share ≤ queue.most
      → IsMoving s tasks queues t r (Granted from (record (get_or queues from d) { running_bw = near.running - share; this_bw = near.this - share }) (record (get_or queues r d) { running_bw = far.running + share; this_bw = far.this + share }))
  moving_granted d x from share queue near far is free on from_there near_is queue_is far_is share_is fits =
      let unrefused : refused_move r held.place ≡ None = ap (λ (z : Record). refused_move r z.place) (sym is) ∙ free in
      let was = free_place r held.place unrefused in
      let from_is : from ≡ was.0 = on ∙ ap (λ (z : Record). runqueue_of z.place Leave) is ∙ ap (λ (w : Place). runqueue_of w Leave) was.1 in
      let place : held.place ≡ On from Contending = was.1 ∙ ap (λ n. On n Contending) (sym from_is) in
      let ne : from ≢ r = subst (λ n. n ≢ r) (sym from_is) was.2 in
      let u_is : share ≡ bw = share_is ∙ ap (λ (z : Record). bandwidth_of z.params) is in
      let a : far.this ≡ this_of records r = ap (λ (n : Reading). n.this) (far_is ∙ book.totals r d there) in
      let b : queue.most ≡ (queue_at s r).most = ap (λ (c : Capacity). c.most) (queue_is ∙ sym (capacity_at d)) in
      let room : this_of records r + bw ≤ (queue_at s r).most = omega (arith, fits, a, b, u_is) in
      let left : NdRunqueue = record (get_or queues from d) { running_bw = near.running - share; this_bw = near.this - share } in
      let reached : NdRunqueue = record (get_or queues r d) { running_bw = far.running + share; this_bw = far.this + share } in
      let q : Reading = reading_in (get_or queues from d) in
      let p : Reading = reading_in (get_or queues r d) in
      let left_sums : reading_in left ≡ record { running = q.running - bw; this = q.this - bw } = same_sums _ _ _ _ (ap (λ (n : Reading). n.running - share) near_is ∙ ap (λ n. q.running - n) u_is) (ap (λ (n : Reading). n.this - share) near_is ∙ ap (λ n. q.this - n) u_is) in
      let reached_sums : reading_in reached ≡ record { running = p.running + bw; this = p.this + bw } = same_sums _ _ _ _ (ap (λ (n : Reading). n.running + share) far_is ∙ ap (λ n. p.running + n) u_is) (ap (λ (n : Reading). n.this + share) far_is ∙ ap (λ n. p.this + n) u_is) in (
        ap (λ (rs : Records). (rs, reply_from from)) (records_moved from place ne room) ∙ move_granted s records t r from place room unrefused,
        book_moved from place ne room left reached d from_there refl refl left_sums reached_sums,
      )

-- a ready task's bandwidth is counted where it is
pub counted : (now : Reading) (from : ℕ) (x : Record) → x.place ≡ On from Contending → Counts now from x → (bandwidth_of x.params ≤ now.running) × (bandwidth_of x.params ≤ now.this)
counted now from x place counts =
    let yes : (from == from) ≡ true = eq-eqb from from refl in
    let active : share_of (is_active_on from) x ≡ bandwidth_of x.params = ap (λ w. cond (is_active_on from w) (bandwidth_of x.params) 0) place ∙ ap (λ b. cond b (bandwidth_of x.params) 0) yes in
    let on : share_of (is_on from) x ≡ bandwidth_of x.params = ap (λ w. cond (is_on from w) (bandwidth_of x.params) 0) place ∙ ap (λ b. cond b (bandwidth_of x.params) 0) yes in
    let c = counts.running in
    let d = counts.this in
    (omega (arith, active, c), omega (arith, on, d))

-- a move that is not refused is from the runqueue of the place
pub from_place : (r from : ℕ) (x : Record) → refused_move r x.place ≡ None → from ≡ runqueue_of x.place Leave → x.place ≡ On from Contending
from_place r from x free on =
    let was = free_place r x.place free in
    was.1 ∙ ap (λ n. On n Contending) (sym (on ∙ ap (λ (w : Place). runqueue_of w Leave) was.1))

refuses_test : (b : Bool) (r from : ℕ) (state : State) (reply : Reply) → cond b (Some (AlreadyOn from)) (refused_charge state) ≡ Some reply → Refuses reply
refuses_test true r from state reply h = subst Refuses (some_same (AlreadyOn from) reply h) refl
refuses_test false r from Contending reply h = absurd cc
refuses_test false r from NonContending reply h = subst Refuses (some_same NotContending reply h) refl
refuses_test false r from Inactive reply h = subst Refuses (some_same NotContending reply h) refl

-- what the place refuses is refused
pub refused_refuses : (r : ℕ) (place : Place) (reply : Reply) → refused_move r place ≡ Some reply → Refuses reply
refused_refuses r Gone reply h = subst Refuses (some_same GoneReply reply h) refl
refused_refuses r Away reply h = subst Refuses (some_same NotOn reply h) refl
refused_refuses r (On from state) reply h = refuses_test (from == r) r from state reply h
