-- Memory whose records and sums are a book's.
use Rattle.std.specs.Prelude.{◌≡◌, ℕ, ◌<◌, ◌≤◌, List, length, slice_index_or}
use Rattle.grub_book.specs.Machine.{Machine}
use Rattle.grub_book.specs.Sums.{Records, reading_of}
use Rattle.grub_book.specs.Sound.{IsKept}
use Rattle.library_book.specs.Memory.{record_of, reading_in}
use Rattle.library_book.specs.declared.memory.NdTask.{NdTask}
use Rattle.library_book.specs.declared.memory.NdRunqueue.{NdRunqueue}

-- each task has a record that it may have
abbrev pub AreKept : Machine → List NdTask → Type 0
AreKept s tasks = (t : ℕ) (d : NdTask) → t < length tasks → IsKept s (record_of (slice_index_or tasks t d))

-- a runqueue has the sums of its tasks, and no more than it admits
pub record IsSum (book : Records) (r : ℕ) (q : NdRunqueue) : Type 0 where
  pub fresh : reading_in q ≡ reading_of book r
  pub admitted : q.this_bw ≤ q.umax

abbrev pub AreSums : Records → List NdRunqueue → Type 0
AreSums book queues = (r : ℕ) (d : NdRunqueue) → r < length queues → IsSum book r (slice_index_or queues r d)
