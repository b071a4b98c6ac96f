-- A step over memory that is a book.
use Rattle.std.proofs.Common.{◌≡◌, inl, inr, true, false, ℕ, ◌+◌, ◌<◌, ◌≤◌, nat_eq, nat_lt, List, [], length, get_or, set, map, Option, Some, None, IfSome, ◌≢◌, refl, sym, ap, subst, ◌∙◌, arith}
use Rattle.std.proofs.lemmas.Bool.{cases_eq, eq-eqb, lt-leb, lt-ltb, ne_eqb}
use Rattle.std.proofs.Math.Nat.{ne_of_lt}
use Rattle.std.proofs.lemmas.List.{get_or-map, get_or-set_same, get_or-set_other, length-map, length-set, map-set, set-get_or}
use Rattle.grub_book.specs.Bandwidth.{Capacity, bandwidth_of}
use Rattle.grub_book.specs.Server.{charge_of, depleted_of}
use Rattle.grub_book.specs.declared.server.Server.{Server}
use Rattle.grub_book.specs.Machine.{Machine, queue_at}
use Rattle.grub_book.specs.Op.{IsOp}
use Rattle.grub_book.specs.Sums.{Records, record_at, reading_of}
use Rattle.grub_book.specs.Sound.{IsThere, IsSound, Standing}
use Rattle.grub_book.specs.Step.{Refuses, changes_sum, charged, is_under_claim, lag_moment, refused, runqueue_of, step, settled}
use Rattle.grub_book.specs.Totals.{Counts, shifted_of}
use Rattle.grub_book.specs.declared.place.Record.{Record}
use Rattle.grub_book.specs.declared.rules.TheConstants.{COUNT_MAX}
use Rattle.grub_book.specs.declared.event.Reading.{Reading}
use Rattle.grub_book.specs.declared.op.Op.{Op}
use Rattle.grub_book.specs.declared.op.Op.TheVariants.{Join, Wake, Block, Leave, Timer, Exit, Charge, Retune}
use Rattle.grub_book.specs.declared.reply.Reply.{Reply}
use Rattle.grub_book.specs.declared.reply.Reply.TheVariants.{Waiting}
use Rattle.grub_book.proofs.Claims.{settled_under}
use Rattle.grub_book.proofs.Readings.{step_unchanged, reading_elsewhere}
use Rattle.grub_book.proofs.Refusals.{refused_same}
use Rattle.grub_book.proofs.Soundness.{moved, moved_from, runqueue_there, sound_step, step_from}
use Rattle.grub_book.proofs.Tallies.{running_le_this}
use Rattle.grub_book.proofs.Totals.{counts_each, shifted_set}
use Rattle.library_book.specs.Memory.{record_of, records_of, constants_of, reading_in, machine_of, AreStates, IsBook}
use Rattle.library_book.specs.inside.Ready.{CanStand, IsReady}
use Rattle.library_book.specs.declared.memory.NdTask.{NdTask}
use Rattle.library_book.specs.declared.memory.NdRunqueue.{NdRunqueue}

-- an op that fits as many runqueues fits the setup
op_in : (s w : Machine) (op : Op) → length w.queues ≡ length s.queues → IsOp w op → IsOp s op
op_in s w (Join r m) same fits = (omega (arith, fits.0, same), fits.1)
op_in s w (Wake r m) same fits = (omega (arith, fits.0, same), fits.1)
op_in s w (Block r m) same fits = (omega (arith, fits.0, same), fits.1)
op_in s w Leave same fits = tt
op_in s w (Timer ticket m) same fits = fits
op_in s w Exit same fits = tt
op_in s w (Charge r dt) same fits = (omega (arith, fits.0, same), fits.1, fits.2)
op_in s w (Retune q p) same fits = fits

-- what is settled does not refuse, if it were not by a reply that is decided before
pub granted : (x : Record) (queue : Capacity) (now : Reading) (op : Op) (m : Record × Reply) → m ≡ settled x queue now op → (Refuses m.1 → is_under_claim m.1 ≡ false) → ¬ Refuses m.1
granted x queue now op m is all late =
    let under : is_under_claim m.1 ≡ true = subst (λ (z : Record × Reply). is_under_claim z.1 ≡ true) (sym is) (settled_under queue now x op) in
    let outside = all late in
    absurd cc

server_alone : (x : Record) (dq : ℕ) (o : Option (ℕ × Server)) → (charged x dq o).0 ≡ record x { server = (charged x dq o).0.server }
server_alone x dq None = refl
server_alone x dq (Some (k, s)) = refl

-- a charge changes the server alone
pub charge_puts : (task : NdTask) (x : Record) (queue : Capacity) (now : Reading) (r dt : ℕ) (m : Record × Reply) → x ≡ record_of task → m ≡ settled x queue now (Charge r dt)
    → record_of (record task { budget = m.0.server.q; deadline = m.0.server.d }) ≡ m.0
charge_puts task x queue now r dt m held is =
    let dq = charge_of dt (bandwidth_of x.params) queue now.running now.this in
    let alone : m.0 ≡ record x { server = m.0.server } = subst (λ (z : Record × Reply). z.0 ≡ record x { server = z.0.server }) (sym is) (server_alone x dq (depleted_of x.server x.params dq)) in
    sym (alone ∙ ap (λ (z : Record). record z { server = m.0.server }) held)

-- a block that waits writes the count and the place
module _ (task : NdTask) (r m z : ℕ) (on : (task.state ≡ 1) × (task.queue ≡ r)) (few : task.count < COUNT_MAX) (later : (z ≡ lag_moment (record_of task)) × (m < z)) where
  pub block_free : refused (record_of task).place (record_of task).count (Block r m) ≡ None
  block_free =
      let here : nat_eq r r ≡ true = eq-eqb r r refl in
      let below : nat_eq task.count COUNT_MAX ≡ false = ne_eqb task.count COUNT_MAX (ne_of_lt few) in
      rw (on.0, on.1, here, below) refl

  pub block_waits : (queue : Capacity) (now : Reading) → (record_of (record task { count = task.count + 1; state = 2 }), Waiting (task.count + 1) z) ≡ settled (record_of task) queue now (Block r m)
  block_waits queue now =
      let test : nat_lt m (lag_moment (record_of task)) ≡ true = rw (← later.0) (lt-ltb m z later.1) in
      rw (test, ← later.0, ← on.1) refl

  pub block_quiet : changes_sum (record_of task) (Block r m) ≡ false
  block_quiet = rw (← later.0) (lt-leb z m later.1)

-- what is said of an op, of the same op
pub of_same : (s : Machine) (was now : Records) (t : ℕ) (given : Option Reply) (a b : Op) → a ≡ b → IfSome given (λ reply. (now, reply) ≡ step s was t b) → IfSome given (λ reply. (now, reply) ≡ step s was t a)
of_same s was now t given a b same told = subst (λ (op : Op). IfSome given (λ reply. (now, reply) ≡ step s was t op)) (sym same) told

-- one task's new state is one of the five
pub states_set : (tasks : List NdTask) (t : ℕ) (y : NdTask) → AreStates tasks → y.state ≤ 4 → AreStates (set tasks t y)
states_set tasks t y were state k d here =
    let there : k < length tasks = omega (arith, here, length-set tasks t y) in
    elim (cases_eq k t) [
      | inl same ↦ subst (λ (j : ℕ). (get_or (set tasks t y) j d).state ≤ 4) (sym same) (subst (λ (z : NdTask). z.state ≤ 4) (sym (get_or-set_same tasks t y d (omega (arith, there, same)))) state)
      | inr ne ↦ subst (λ (z : NdTask). z.state ≤ 4) (sym (get_or-set_other tasks t k y d ne)) (were k d there)
    ]

module _ (s : Machine) (tasks : List NdTask) (queues : List NdRunqueue) (book : IsBook s tasks queues) where
  pub queue_count : length queues ≡ length s.queues
  queue_count = sym (length-map queues constants_of) ∙ ap length book.capacities

  module _ (t : ℕ) (here : t < length tasks) where
    pub task : t < length s.tasks
    task = omega (arith, book.sound.one_each, length-map tasks record_of)

    pub in_records : t < length (records_of tasks)
    in_records = omega (arith, here, length-map tasks record_of)

    pub record_is : (d : NdTask) → record_of (get_or tasks t d) ≡ record_at (records_of tasks) t
    record_is d = sym (get_or-map record_of tasks t d _ here)

    pub stands : CanStand (record_at (records_of tasks) t)
    stands =
        let kept = book.sound.kept t task in
        record { reservation = kept.reservation; fits = kept.server.fits; count = kept.count }

    module _ (op : Op) (fits : IsOp (machine_of [] queues) op) where
      pub fits_setup : IsOp s op
      fits_setup = op_in s (machine_of [] queues) op (ap length book.capacities) fits

      module _ (x : Record) (held : x ≡ record_at (records_of tasks) t) (r : ℕ) (on : r ≡ runqueue_of x.place op) where
        pub there_setup : r < length s.queues
        there_setup =
            let kept : IsThere s x.place = rw held ((book.sound.kept t task).there) in
            let inside : runqueue_of x.place op < length s.queues = runqueue_there s x.place op book.machine.queues_some kept fits_setup in
            omega (arith, inside, on)

        pub there : r < length queues
        there = omega (arith, there_setup, queue_count)

        module _ (d : NdRunqueue) where
          abbrev cell : NdRunqueue
          cell = get_or queues r d

          fresh : reading_in cell ≡ reading_of (records_of tasks) r
          fresh = book.totals r d there

          pub capacity_is : constants_of cell ≡ queue_at s r
          capacity_is = sym (get_or-map constants_of queues r d _ there) ∙ ap (λ (cs : List Capacity). get_or cs r (record { most = 0; extra = 0 })) book.capacities

          pub counts_it : Counts (reading_in cell) r x
          counts_it = subst (λ (n : Reading). Counts n r x) (sym fresh) (subst (λ (z : Record). Counts (reading_of (records_of tasks) r) r z) (sym held) (counts_each (records_of tasks) t r in_records))

          pub ready : IsReady (constants_of cell) (reading_in cell)
          ready =
              let within : (reading_of (records_of tasks) r).this ≤ (queue_at s r).most = book.sound.admitted r there_setup in
              record {
                capacity = rw capacity_is (book.machine.capacities r there_setup);
                running = subst (λ (n : Reading). n.running ≤ n.this) (sym fresh) (running_le_this (records_of tasks) r);
                this = subst (λ (c : Capacity). (reading_in cell).this ≤ c.most) (sym capacity_is) (subst (λ (n : Reading). n.this ≤ (queue_at s r).most) (sym fresh) within);
              }

          module _ (queue : Capacity) (now : Reading) (of_cell : queue ≡ constants_of cell) (reads_cell : now ≡ reading_in cell) (m : Record × Reply) (free : refused x.place x.count op ≡ None) (is : m ≡ settled x queue now op) where
            pub settles : m ≡ moved s (records_of tasks) t op
            settles = is ∙ moved_from s (records_of tasks) t op x r queue now held on (of_cell ∙ capacity_is) (reads_cell ∙ fresh)

            free_there : refused (record_at (records_of tasks) t).place (record_at (records_of tasks) t).count op ≡ None
            free_there = rw (← held) free

            abbrev b : Standing
            b = record { setup = s; records = records_of tasks }

            pub stepped : (set (records_of tasks) t m.0, m.1) ≡ step s (records_of tasks) t op
            stepped = step_from b b t op m refl free_there settles

            pub steps_refused : Refuses m.1 → (records_of tasks, m.1) ≡ step s (records_of tasks) t op
            steps_refused late =
                let records = records_of tasks in
                let reply : m.1 ≡ (step s records t op).1 = ap (λ z. z.1) stepped in
                let kept : records ≡ (step s records t op).0 = sym (refused_same s records t op in_records (subst Refuses reply late)) in
                ap (λ (rs : Records). (rs, m.1)) kept ∙ ap (λ (x : Reply). ((step s records t op).0, x)) reply

            module _ (y : NdTask) (put : record_of y ≡ m.0) (state : y.state ≤ 4) where
              pub records_set : records_of (set tasks t y) ≡ set (records_of tasks) t m.0
              records_set = map-set record_of tasks t y ∙ ap (λ (z : Record). set (records_of tasks) t z) put

              pub steps : (records_of (set tasks t y), m.1) ≡ step s (records_of tasks) t op
              steps = rw records_set stepped

              states_after : AreStates (set tasks t y)
              states_after = states_set tasks t y book.states state

              sound_after : IsSound s (records_of (set tasks t y))
              sound_after =
                  let same : (step s (records_of tasks) t op).0 ≡ records_of (set tasks t y) = ap (λ z. z.0) (sym steps) in
                  subst (IsSound s) same (sound_step s (records_of tasks) t op book.sound task fits_setup)

              pub stays_quiet : changes_sum (record_at (records_of tasks) t) op ≡ false → IsBook s (set tasks t y) queues
              stays_quiet quiet =
                  let records = records_of tasks in
                  let same : (step s records t op).0 ≡ records_of (set tasks t y) = ap (λ z. z.0) (sym steps) in
                  record {
                    machine = book.machine;
                    states = states_after;
                    sound = sound_after;
                    capacities = book.capacities;
                    totals = λ k e within. book.totals k e within ∙ sym (step_unchanged s records t op k in_records quiet) ∙ ap (λ (rs : Records). reading_of rs k) same;
                  }

              module _ (new : Reading) (shifts : new ≡ shifted_of now r x m.0) (q : NdRunqueue) (constants : constants_of q ≡ queue) (reads : reading_in q ≡ new) where
                constants_set : map constants_of (set queues r q) ≡ map constants_of queues
                constants_set =
                    map-set constants_of queues r q ∙ ap (λ (c : Capacity). set (map constants_of queues) r c) (constants ∙ of_cell ∙ sym (get_or-map constants_of queues r d (constants_of cell) there)) ∙ set-get_or (map constants_of queues) r (constants_of cell)

                -- the runqueue of the step has the sum of the new records
                shifts_sum : reading_in q ≡ reading_of (set (records_of tasks) t m.0) r
                shifts_sum =
                    reads ∙ shifts ∙ ap (λ (n : Reading). shifted_of n r x m.0) (reads_cell ∙ fresh) ∙ ap (λ (z : Record). shifted_of (reading_of (records_of tasks) r) r z m.0) held
                    ∙ shifted_set (records_of tasks) t m.0 r in_records

                -- and so has each other
                other_sum : (k : ℕ) → r ≢ k → reading_of (records_of tasks) k ≡ reading_of (set (records_of tasks) t m.0) k
                other_sum k ne =
                    let r_is : r ≡ runqueue_of (record_at (records_of tasks) t).place op = rw (← held) on in
                    sym (ap (λ (z : Record × Reply). reading_of (set (records_of tasks) t z.0) k) settles ∙ reading_elsewhere s (records_of tasks) t op k in_records free_there (λ e. ne (r_is ∙ e)))

                pub stays : IsBook s (set tasks t y) (set queues r q)
                stays =
                    record {
                      machine = book.machine;
                      states = states_after;
                      sound = sound_after;
                      capacities = constants_set ∙ book.capacities;
                      totals = λ k e inside.
                          let within : k < length queues = omega (arith, inside, length-set queues r q) in
                          elim (cases_eq k r) [
                            | inl same ↦ subst (λ (j : ℕ). reading_in (get_or (set queues r q) j e) ≡ reading_of (records_of (set tasks t y)) j) (sym same) (ap reading_in (get_or-set_same queues r q e there) ∙ shifts_sum ∙ ap (λ (rs : Records). reading_of rs r) (sym records_set))
                            | inr ne ↦ ap reading_in (get_or-set_other queues r k q e ne) ∙ book.totals k e within ∙ other_sum k (λ same. ne (sym same)) ∙ ap (λ (rs : Records). reading_of rs k) (sym records_set)
                          ];
                    }
