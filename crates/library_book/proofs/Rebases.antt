-- Memory of a book whose origin is moved.
use Rattle.std.proofs.Common.{◌≡◌, ◌≢◌, ℕ, ◌+◌, ◌<◌, ◌≤◌, ◌↔◌, true, false, List, [], ◌∷◌, length, get_or, map, Option, Some, None, refl, sym, ap, subst, ◌∙◌, arith}
use Rattle.std.specs.List.{position_from}
use Rattle.std.proofs.lemmas.List.{at_drop_all, get_or-map, length-map}
use Rattle.grub_book.specs.Machine.{Machine}
use Rattle.grub_book.specs.Sums.{Records, record_at, reading_of}
use Rattle.grub_book.specs.Sound.{IsSound}
use Rattle.grub_book.specs.Rebase.{bound_of, holds_back, first_held, rebased, book_rebased}
use Rattle.grub_book.specs.inside.Standings.{lesser_of}
use Rattle.grub_book.specs.declared.place.Place.TheVariants.{Gone}
use Rattle.grub_book.specs.declared.place.Record.{Record}
use Rattle.grub_book.proofs.Rebasing.{NoneBefore, AreFree, none_more, first_here, none_at_all, free_more, reading_rebased, sound_rebased}
use Rattle.library_book.specs.Memory.{record_of, records_of, AreStates, IsBook}
use Rattle.library_book.specs.Rebase.{rebase_unless, rebase_answer}
use Rattle.library_book.specs.inside.Ready.{CanStand}
use Rattle.library_book.specs.inside.Rebasing.{task_rebased}
use Rattle.library_book.specs.declared.asked.NdReply.{NdReply}
use Rattle.library_book.specs.declared.codes.TheConstants.{TOO_FAR}
use Rattle.library_book.specs.declared.memory.TheConstants.{FLAT_TASKS_MAX}
use Rattle.library_book.specs.declared.memory.NdTask.{NdTask}
use Rattle.library_book.specs.declared.memory.NdRunqueue.{NdRunqueue}
use Rattle.library_book.specs.declared.rebasing.TheConstants.{REBASED}
use Rattle.library_book.proofs.Stepping.{record_is, stands}

abbrev nobody : Record
nobody = record { place = Gone; count = 0; params = record { runtime = 0; period = 0 }; server = record { q = 0; d = 0 } }

-- along a loop over the tasks
module _ (by : ℕ) (tasks : List NdTask) (i : ℕ) (d : NdTask) (there : i < length tasks) where
  in_records : i < length (records_of tasks)
  in_records = omega (arith, there, length-map tasks record_of)

  its_record : record_at (records_of tasks) i ≡ record_of (get_or tasks i d)
  its_record = get_or-map record_of tasks i d nobody there

  pub task_more : NoneBefore (holds_back by) (records_of tasks) i → holds_back by (record_of (get_or tasks i d)) ≡ false → NoneBefore (holds_back by) (records_of tasks) (i + 1)
  task_more was free = none_more (holds_back by) (records_of tasks) i nobody in_records was (ap (holds_back by) its_record ∙ free)

  pub task_here : NoneBefore (holds_back by) (records_of tasks) i → holds_back by (record_of (get_or tasks i d)) ≡ true → first_held by (records_of tasks) ≡ Some i
  task_here was held = sym (first_here (holds_back by) (records_of tasks) i nobody in_records was (ap (holds_back by) its_record ∙ held))

  pub task_free : (least : ℕ) → AreFree by (records_of tasks) i least ↔ AreFree by (records_of tasks) (i + 1) (lesser_of least (bound_of (record_of (get_or tasks i d))))
  task_free least =
      let more = free_more by (records_of tasks) i least nobody in_records in
      let same = ap (λ (x : Record). lesser_of least (bound_of x)) its_record in
      subst (λ (n : ℕ). AreFree by (records_of tasks) i least ↔ AreFree by (records_of tasks) (i + 1) n) same more

pub none_held : (by : ℕ) (tasks : List NdTask) (i : ℕ) → length tasks ≤ i → NoneBefore (holds_back by) (records_of tasks) i → first_held by (records_of tasks) ≡ None
none_held by tasks i past was = sym (none_at_all (holds_back by) (records_of tasks) i (omega (arith, past, length-map tasks record_of)) was)

-- at the end the limit alone decides
pub free_end : (by : ℕ) (tasks : List NdTask) (i least : ℕ) → length tasks ≤ i → by ≤ least → AreFree by (records_of tasks) i least
free_end by tasks i least past within = (within, at_drop_all (position_from (holds_back by) i) (records_of tasks) i (omega (arith, past, length-map tasks record_of)))

-- what is answered
pub answer_held : (by : ℕ) (book : Records) (t : ℕ) → first_held by book ≡ Some t → rebase_answer by book ≡ (book, record { kind = TOO_FAR; number = t; budget = 0; deadline = 0; charged = 0 })
answer_held by book t is = ap (λ o. rebase_unless o by book) is

pub answer_free : (by : ℕ) (book : Records) → first_held by book ≡ None → rebase_answer by book ≡ (book_rebased by book, record { kind = REBASED; number = 0; budget = 0; deadline = 0; charged = 0 })
answer_free by book is = ap (λ o. rebase_unless o by book) is

moved_of : (o : Option ℕ) (by : ℕ) (book : Records) (reply : NdReply) → reply ≡ (rebase_unless o by book).1 → reply.kind ≡ REBASED → (book_rebased by book, reply) ≡ rebase_unless o by book
moved_of None by book reply is granted = ap (λ (r : NdReply). (book_rebased by book, r)) is
moved_of (Some t) by book reply is granted = absurd (let same : 74 ≡ 111 = sym (ap (λ (r : NdReply). r.kind) is) ∙ granted in omega (arith, same))

kept_of : (o : Option ℕ) (by : ℕ) (book : Records) (reply : NdReply) → reply ≡ (rebase_unless o by book).1 → reply.kind ≢ REBASED → (book, reply) ≡ rebase_unless o by book
kept_of None by book reply is refused = absurd (refused (ap (λ (r : NdReply). r.kind) is))
kept_of (Some t) by book reply is refused = ap (λ (r : NdReply). (book, r)) is

records_rebased : (by : ℕ) (tasks : List NdTask) → records_of (map (task_rebased by) tasks) ≡ book_rebased by (records_of tasks)
records_rebased by [] = refl
records_rebased by (x ∷ tasks) = ap (λ (book : Records). rebased by (record_of x) ∷ book) (records_rebased by tasks)

pub answer_moved : (by : ℕ) (tasks : List NdTask) (reply : NdReply) → reply ≡ (rebase_answer by (records_of tasks)).1 → reply.kind ≡ REBASED → (records_of (map (task_rebased by) tasks), reply) ≡ rebase_answer by (records_of tasks)
answer_moved by tasks reply is granted =
    let book = records_of tasks in
    ap (λ (b : Records). (b, reply)) (records_rebased by tasks) ∙ moved_of (first_held by book) by book reply is granted

pub answer_kept : (by : ℕ) (tasks : List NdTask) (reply : NdReply) → reply ≡ (rebase_answer by (records_of tasks)).1 → reply.kind ≢ REBASED → (records_of tasks, reply) ≡ rebase_answer by (records_of tasks)
answer_kept by tasks reply is refused = let book = records_of tasks in kept_of (first_held by book) by book reply is refused

-- of memory that is a book
module _ (s : Machine) (tasks : List NdTask) (queues : List NdRunqueue) (book : IsBook s tasks queues) where
  pub few_tasks : length tasks ≤ FLAT_TASKS_MAX
  few_tasks =
      let most = book.machine.tasks_most in
      let each = book.sound.one_each in
      omega (arith, most, each, length-map tasks record_of)

  pub can_stand : (t : ℕ) (d : NdTask) → t < length tasks → CanStand (record_of (get_or tasks t d))
  can_stand t d here = subst CanStand (sym (record_is s tasks queues book t here d)) (stands s tasks queues book t here)

  states_rebased : (by : ℕ) → AreStates (map (task_rebased by) tasks)
  states_rebased by t d here =
      let there : t < length tasks = omega (arith, here, length-map tasks (task_rebased by)) in
      let is = get_or-map (task_rebased by) tasks t d d there in
      subst (λ (x : NdTask). x.state ≤ 4) (sym is) (book.states t d there)

  pub book_moved : (by : ℕ) → IsBook s (map (task_rebased by) tasks) queues
  book_moved by =
      let records = records_of tasks in
      let is = records_rebased by tasks in
      record {
        machine = book.machine;
        states = states_rebased by;
        sound = subst (IsSound s) (sym is) (sound_rebased s by records book.sound);
        capacities = book.capacities;
        totals = λ r d there. book.totals r d there ∙ sym (reading_rebased by records r) ∙ ap (λ (b : Records). reading_of b r) (sym is);
      }
