-- Memory that is audited.
use Rattle.std.proofs.Common.{◌≡◌, ℕ, ◌+◌, ◌<◌, ◌≤◌, ◌==◌, Bool, List, length, get_or, map, take, drop, cond, sym, ap, subst, ◌∙◌, refl, arith}
use Rattle.std.specs.List.{sum_by}
use Rattle.std.proofs.lemmas.Bool.{ne_eqb}
use Rattle.std.proofs.lemmas.List.{at_drop_more, at_drop_all, get_or-map, length-map, map_more, take_all}
use Rattle.std.proofs.lemmas.List.Sums.{sum_by_push}
use Rattle.grub_book.specs.Bandwidth.{Capacity, IsCapacity}
use Rattle.grub_book.specs.Machine.{Machine, queue_at}
use Rattle.grub_book.specs.Sums.{Records, share_of, reading_of}
use Rattle.grub_book.specs.Sound.{IsThere, IsKept}
use Rattle.grub_book.specs.declared.event.Reading.{Reading}
use Rattle.grub_book.specs.declared.place.Place.{Place}
use Rattle.grub_book.specs.declared.place.Place.TheVariants.{Away, Gone, On}
use Rattle.grub_book.specs.declared.place.Record.{Record}
use Rattle.library_book.specs.Memory.{params_of, record_of, records_of, constants_of, machine_of, AreStates, IsFlatMachine, IsBook}
use Rattle.library_book.specs.Audit.{sum_fault, sums_fault}
use Rattle.library_book.specs.inside.Sums.{AreKept, AreSums}
use Rattle.library_book.specs.declared.memory.NdTask.{NdTask}
use Rattle.library_book.specs.declared.memory.NdRunqueue.{NdRunqueue}
use Rattle.library_book.proofs.Beginning.{IsFlatMachine-made}

-- the runqueues before this one have no fault
abbrev pub NoSumBefore : Records → List NdRunqueue → ℕ → Type 0
NoSumBefore book queues i = sums_fault book i (drop i queues) ≡ sums_fault book 0 queues

pub no_sum_more : (book : Records) (queues : List NdRunqueue) (i : ℕ) (d : NdRunqueue) → i < length queues → NoSumBefore book queues i → sum_fault book i (get_or queues i d) ≡ 0 → NoSumBefore book queues (i + 1)
no_sum_more book queues i d there was zero =
    let skip = ap (λ n. cond (n == 0) (sums_fault book (i + 1) (drop (i + 1) queues)) n) zero in
    sym (at_drop_more (sums_fault book i) queues i d there ∙ skip) ∙ was

pub sum_fault_here : (book : Records) (queues : List NdRunqueue) (i : ℕ) (d : NdRunqueue) → i < length queues → NoSumBefore book queues i → (sum_fault book i (get_or queues i d) ≡ 0 → ⊥) → sum_fault book i (get_or queues i d) ≡ sums_fault book 0 queues
sum_fault_here book queues i d there was ne =
    let stop = ap (λ c. cond c (sums_fault book (i + 1) (drop (i + 1) queues)) (sum_fault book i (get_or queues i d))) (ne_eqb (sum_fault book i (get_or queues i d)) 0 ne) in
    sym (at_drop_more (sums_fault book i) queues i d there ∙ stop) ∙ was

pub no_sum_at_all : (book : Records) (queues : List NdRunqueue) (i : ℕ) → length queues ≤ i → NoSumBefore book queues i → 0 ≡ sums_fault book 0 queues
no_sum_at_all book queues i past was = sym (at_drop_all (sums_fault book i) queues i past) ∙ was

-- a sum, along a loop
pub sum_more : (passes : Place → Bool) (tasks : List NdTask) (i : ℕ) (d : NdTask) (sum add : ℕ) → i < length tasks → sum ≡ sum_by (share_of passes) (map record_of (take i tasks)) → add ≡ share_of passes (record_of (get_or tasks i d))
    → sum + add ≡ sum_by (share_of passes) (map record_of (take (i + 1) tasks))
sum_more passes tasks i d sum add there is adds =
    ap (λ n. n + add) is ∙ ap (λ n. sum_by (share_of passes) (map record_of (take i tasks)) + n) adds
    ∙ sym (ap (sum_by (share_of passes)) (map_more record_of tasks i d there) ∙ sum_by_push (share_of passes) (map record_of (take i tasks)) (record_of (get_or tasks i d)))

pub sum_all : (passes : Place → Bool) (tasks : List NdTask) (i sum : ℕ) → length tasks ≤ i → sum ≡ sum_by (share_of passes) (map record_of (take i tasks)) → sum ≡ sum_by (share_of passes) (records_of tasks)
sum_all passes tasks i sum past is = is ∙ ap (λ (xs : List NdTask). sum_by (share_of passes) (map record_of xs)) (take_all i tasks past)

there_too : (s w : Machine) (place : Place) → length s.queues ≡ length w.queues → IsThere s place → IsThere w place
there_too s w (On r state) same there = omega (arith, same, there)
there_too s w Away same there = tt
there_too s w Gone same there = tt

kept_too : (s w : Machine) (x : Record) → length s.queues ≡ length w.queues → IsKept s x → IsKept w x
kept_too s w x same kept = record { reservation = kept.reservation; server = kept.server; count = kept.count; there = there_too s w x.place same kept.there }

no_task : NdTask
no_task = record { runtime = 0; period = 0; budget = 0; deadline = 0; count = 0; state = 0; queue = 0 }

no_queue : NdRunqueue
no_queue = record { umax = 0; uextra = 0; running_bw = 0; this_bw = 0 }

module _ (tasks : List NdTask) (queues : List NdRunqueue) where
  pub IsBook-audited : IsFlatMachine (machine_of tasks queues) → AreKept (machine_of tasks queues) tasks → AreStates tasks → AreSums (records_of tasks) queues → IsBook (machine_of tasks queues) tasks queues
  IsBook-audited machine kept states sums =
      record {
        machine = machine;
        states = states;
        sound = record {
          one_each = length-map tasks record_of ∙ sym (length-map tasks params_of);
          kept = λ t inside.
              let here : t < length tasks = omega (arith, inside, length-map tasks params_of) in
              subst (IsKept (machine_of tasks queues)) (sym (get_or-map record_of tasks t no_task _ here)) (kept t no_task here);
          admitted = λ r inside.
              let here : r < length queues = omega (arith, inside, length-map queues constants_of) in
              let sum = sums r no_queue here in
              let within : (reading_of (records_of tasks) r).this ≤ (constants_of (get_or queues r no_queue)).most = subst (λ (n : Reading). n.this ≤ (get_or queues r no_queue).umax) sum.fresh sum.admitted in
              subst (λ (c : Capacity). (reading_of (records_of tasks) r).this ≤ c.most) (sym (get_or-map constants_of queues r no_queue _ here)) within;
        };
        capacities = refl;
        totals = λ r d here. (sums r d here).fresh;
      }

  module _ (s : Machine) (book : IsBook s tasks queues) where
    same_queues : length s.queues ≡ length (machine_of tasks queues).queues
    same_queues = ap length (sym book.capacities)

    task_there : (t : ℕ) → t < length tasks → t < length s.tasks
    task_there t here = omega (arith, here, book.sound.one_each, length-map tasks record_of)

    pub kept_of : AreKept (machine_of tasks queues) tasks
    kept_of t d here =
        kept_too s (machine_of tasks queues) _ same_queues (subst (IsKept s) (get_or-map record_of tasks t d _ here) (book.sound.kept t (task_there t here)))

    pub sums_of : AreSums (records_of tasks) queues
    sums_of r d here =
        let there : r < length s.queues = omega (arith, here, same_queues, length-map queues constants_of) in
        let is : queue_at s r ≡ constants_of (get_or queues r d) = ap (λ (cs : List Capacity). get_or cs r (record { most = 0; extra = 0 })) (sym book.capacities) ∙ get_or-map constants_of queues r d _ here in
        let within : (reading_of (records_of tasks) r).this ≤ (constants_of (get_or queues r d)).most = subst (λ (c : Capacity). (reading_of (records_of tasks) r).this ≤ c.most) is (book.sound.admitted r there) in
        record {
          fresh = book.totals r d here;
          admitted = subst (λ (n : Reading). n.this ≤ (get_or queues r d).umax) (sym (book.totals r d here)) within;
        }

    pub machine_now : IsFlatMachine (machine_of tasks queues)
    machine_now =
        let some : 1 ≤ length queues = omega (arith, book.machine.queues_some, same_queues, length-map queues constants_of) in
        let most : length queues ≤ 65536 = omega (arith, book.machine.queues_most, same_queues, length-map queues constants_of) in
        let tasks_most : length tasks ≤ 1048576 = omega (arith, book.machine.tasks_most, book.sound.one_each, length-map tasks record_of) in
        IsFlatMachine-made tasks queues some most tasks_most
        (λ r d here.
        let there : r < length s.queues = omega (arith, here, same_queues, length-map queues constants_of) in
        let is : queue_at s r ≡ constants_of (get_or queues r d) = ap (λ (cs : List Capacity). get_or cs r (record { most = 0; extra = 0 })) (sym book.capacities) ∙ get_or-map constants_of queues r d _ here in
        subst IsCapacity is (book.machine.capacities r there))
        (λ t d here. (kept_of t d here).reservation)
