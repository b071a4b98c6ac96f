-- What the memory of a caller stands for: a task's struct is a record of the book, and a runqueue's its constants beside its reading.
use Rattle.std.specs.Prelude.{◌≡◌, ℕ, ◌==◌, ◌<◌, ◌≤◌, List, length, map, slice_index_or, if◌then◌else◌}
use Rattle.grub_book.specs.Bandwidth.{Reservation, Capacity, IsReservation, IsCapacity}
use Rattle.grub_book.specs.Machine.{Machine, queue_at, task_at}
use Rattle.grub_book.specs.Sums.{Records, reading_of}
use Rattle.grub_book.specs.Sound.{IsSound}
use Rattle.grub_book.specs.declared.event.Reading.{Reading}
use Rattle.grub_book.specs.declared.place.State.TheVariants.{Contending, NonContending, Inactive}
use Rattle.grub_book.specs.declared.place.Place.{Place}
use Rattle.grub_book.specs.declared.place.Place.TheVariants.{Away, Gone, On}
use Rattle.grub_book.specs.declared.place.Record.{Record}
use Rattle.library_book.specs.declared.memory.TheConstants.{FLAT_QUEUES_MAX, FLAT_TASKS_MAX}
use Rattle.library_book.specs.declared.memory.NdTask.{NdTask}
use Rattle.library_book.specs.declared.memory.NdRunqueue.{NdRunqueue}

-- 0 away, 1 contending, 2 non-contending, 3 inactive, and any other gone
abbrev pub place_of : ℕ → ℕ → Place
place_of state queue =
    if state == 0 then Away
    else (if state == 1 then On queue Contending
    else (if state == 2 then On queue NonContending
    else (if state == 3 then On queue Inactive
    else Gone)))

abbrev pub params_of : NdTask → Reservation
params_of x = record { runtime = x.runtime; period = x.period }

abbrev pub record_of : NdTask → Record
record_of x =
    record { place = place_of x.state x.queue; count = x.count; server = record { q = x.budget; d = x.deadline }; params = params_of x }

abbrev pub records_of : List NdTask → Records
records_of tasks = map record_of tasks

abbrev pub constants_of : NdRunqueue → Capacity
constants_of x = record { most = x.umax; extra = x.uextra }

abbrev pub reading_in : NdRunqueue → Reading
reading_in x = record { running = x.running_bw; this = x.this_bw }

-- a book is opened with the reservations and the constants that stand in the memory
abbrev pub machine_of : List NdTask → List NdRunqueue → Machine
machine_of tasks queues = record { queues = map constants_of queues; tasks = map params_of tasks }

-- what a flat book may be set up with: as the book of `grub_book`, but of more runqueues and tasks
pub record IsFlatMachine (s : Machine) : Type 0 where
  pub queues_some : 1 ≤ length s.queues
  pub queues_most : length s.queues ≤ FLAT_QUEUES_MAX
  pub tasks_most : length s.tasks ≤ FLAT_TASKS_MAX
  pub capacities : (r : ℕ) → r < length s.queues → IsCapacity (queue_at s r)
  pub reservations : (t : ℕ) → t < length s.tasks → IsReservation (task_at s t)

-- the greatest state of a task: it has ended
abbrev pub state_max : ℕ
state_max = 4

-- each task's state is one of the five
abbrev pub AreStates : List NdTask → Type 0
AreStates tasks = (t : ℕ) (d : NdTask) → t < length tasks → (slice_index_or tasks t d).state ≤ state_max

-- The memory is a book of that setup: each task has a record that it may have, and each reading is the sum, added up afresh.
pub record IsBook (s : Machine) (tasks : List NdTask) (queues : List NdRunqueue) : Type 0 where
  pub machine : IsFlatMachine s
  pub states : AreStates tasks
  pub sound : IsSound s (records_of tasks)
  pub capacities : map constants_of queues ≡ s.queues
  pub totals : (r : ℕ) (d : NdRunqueue) → r < length queues → reading_in (slice_index_or queues r d) ≡ reading_of (records_of tasks) r
