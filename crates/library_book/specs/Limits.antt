-- Memory whose numbers are within their limits.
use Rattle.std.specs.Prelude.{ℕ, ◌<◌, List, length, slice_index_or}
use Rattle.grub_book.specs.Bandwidth.{IsReservation, IsCapacity}
use Rattle.library_book.specs.Memory.{params_of, constants_of}
use Rattle.library_book.specs.declared.memory.NdTask.{NdTask}
use Rattle.library_book.specs.declared.memory.NdRunqueue.{NdRunqueue}

-- each runqueue's constants
abbrev pub AreConstants : List NdRunqueue → Type 0
AreConstants queues = (r : ℕ) (d : NdRunqueue) → r < length queues → IsCapacity (constants_of (slice_index_or queues r d))

-- each task's reservation
abbrev pub AreReservations : List NdTask → Type 0
AreReservations tasks = (t : ℕ) (d : NdTask) → t < length tasks → IsReservation (params_of (slice_index_or tasks t d))
