-- Memory is opened as a book.
use Rattle.std.proofs.Common.{◌≡◌, ℕ, ◌<◌, ◌≤◌, List, [], length, get_or, map, sym, ap, ◌∙◌, arith}
use Rattle.std.proofs.lemmas.List.{get_or-map, length-map, same_lists}
use Rattle.grub_book.specs.Bandwidth.{Reservation}
use Rattle.grub_book.specs.Machine.{Machine, task_at}
use Rattle.grub_book.specs.Sound.{IsSound}
use Rattle.grub_book.specs.Sums.{Records, record_at, opening_record, opening_book, reading_of}
use Rattle.grub_book.proofs.BandwidthLaws.{IsServer-fresh}
use Rattle.grub_book.proofs.Soundness.{opening_this}
use Rattle.grub_book.proofs.Totals.{opening_totals}
use Rattle.library_book.specs.Memory.{record_of, records_of, params_of, constants_of, reading_in, machine_of, AreStates, IsFlatMachine, IsBook}
use Rattle.library_book.specs.Limits.{AreConstants, AreReservations}
use Rattle.library_book.specs.declared.memory.TheConstants.{FLAT_QUEUES_MAX, FLAT_TASKS_MAX}
use Rattle.library_book.specs.declared.memory.NdTask.{NdTask}
use Rattle.library_book.specs.declared.memory.NdRunqueue.{NdRunqueue}

abbrev no_queue : NdRunqueue
no_queue = record { umax = 0; uextra = 0; running_bw = 0; this_bw = 0 }

abbrev no_task : NdTask
no_task = record { runtime = 0; period = 0; budget = 0; deadline = 0; count = 0; state = 0; queue = 0 }

-- the records that the tasks begin with
sound_opening : (s : Machine) → IsFlatMachine s → IsSound s (opening_book s)
sound_opening s ok = record {
  one_each = length-map s.tasks opening_record;
  kept = λ t here.
      let p = task_at s t in
      let is : record_at (opening_book s) t ≡ opening_record p = get_or-map opening_record s.tasks t _ _ here in
      rw is (record { reservation = ok.reservations t here; server = IsServer-fresh p (ok.reservations t here); count = omega arith; there = tt });
  admitted = λ r there. rw (opening_this s r) (omega arith);
}

pub capacities_kept : (old new : List NdRunqueue) → length new ≡ length old → ((k : ℕ) (d : NdRunqueue) → constants_of (get_or new k d) ≡ constants_of (get_or old k d)) → map constants_of new ≡ map constants_of old
capacities_kept old new count each =
    same_lists _ _ (length-map new constants_of ∙ count ∙ sym (length-map old constants_of)) (λ k d inside.
    let here : k < length new = omega (arith, inside, length-map new constants_of) in
    let there : k < length old = omega (arith, here, count) in
    get_or-map constants_of new k no_queue d here ∙ each k no_queue ∙ sym (get_or-map constants_of old k no_queue d there))

pub records_opened : (old new : List NdTask) → length new ≡ length old → ((k : ℕ) (d : NdTask) → k < length old → record_of (get_or new k d) ≡ opening_record (params_of (get_or old k d)))
    → records_of new ≡ opening_book (machine_of old [])
records_opened old new count each =
    let reservations : List Reservation = map params_of old in
    same_lists _ _ (length-map new record_of ∙ count ∙ sym (length-map old params_of) ∙ sym (length-map reservations opening_record)) (λ k d inside.
    let here : k < length new = omega (arith, inside, length-map new record_of) in
    let there : k < length old = omega (arith, here, count) in
    let told : k < length reservations = omega (arith, there, length-map old params_of) in
    get_or-map record_of new k no_task d here ∙ each k no_task there
    ∙ ap opening_record (sym (get_or-map params_of old k no_task (params_of no_task) there)) ∙ sym (get_or-map opening_record reservations k (params_of no_task) d told))

module _ (tasks : List NdTask) (queues : List NdRunqueue) where
  pub IsFlatMachine-made : 1 ≤ length queues → length queues ≤ FLAT_QUEUES_MAX → length tasks ≤ FLAT_TASKS_MAX → AreConstants queues → AreReservations tasks → IsFlatMachine (machine_of tasks queues)
  IsFlatMachine-made some queues_most tasks_most capacities reservations =
      record {
        queues_some = omega (arith, some, length-map queues constants_of);
        queues_most = omega (arith, queues_most, length-map queues constants_of);
        tasks_most = omega (arith, tasks_most, length-map tasks params_of);
        capacities = λ r inside. let here : r < length queues = omega (arith, inside, length-map queues constants_of) in rw (get_or-map constants_of queues r no_queue _ here) (capacities r no_queue here);
        reservations = λ t inside. let here : t < length tasks = omega (arith, inside, length-map tasks params_of) in rw (get_or-map params_of tasks t no_task _ here) (reservations t no_task here);
      }

  pub capacities_of : IsFlatMachine (machine_of tasks queues) → AreConstants queues
  capacities_of m r d here = rw (get_or-map constants_of queues r d (record { most = 0; extra = 0 }) here) at (m.capacities r (omega (arith, here, length-map queues constants_of)))

  pub reservations_of : IsFlatMachine (machine_of tasks queues) → AreReservations tasks
  reservations_of m t d here = rw (get_or-map params_of tasks t d (record { runtime = 0; period = 0 }) here) at (m.reservations t (omega (arith, here, length-map tasks params_of)))

  pub IsBook-opened : (new : List NdTask) (cells : List NdRunqueue) → IsFlatMachine (machine_of tasks queues) → records_of new ≡ opening_book (machine_of tasks []) → AreStates new → map constants_of cells ≡ map constants_of queues
      → ((r : ℕ) (d : NdRunqueue) → r < length cells → reading_in (get_or cells r d) ≡ record { running = 0; this = 0 }) → IsBook (machine_of tasks queues) new cells
  IsBook-opened new cells machine records states constants zero =
      let s = machine_of tasks queues in
      let opening : records_of new ≡ opening_book s = records in
      record {
        machine = machine;
        states = states;
        sound = rw opening (sound_opening s machine);
        capacities = constants;
        totals = λ r d inside. zero r d inside ∙ sym (opening_totals s r) ∙ ap (λ (rs : Records). reading_of rs r) (sym opening);
      }
