-- Which runqueue or task has the first fault.
use Rattle.std.specs.Prelude.{ℕ, ◌+◌, ◌==◌, ◌||◌, nat_lt, List, [], ◌∷◌, length, if◌then◌else◌}
use Rattle.grub_book.specs.Sums.{Records}
use Rattle.library_book.specs.Memory.{records_of}
use Rattle.library_book.specs.Opening.{first_fault, queue_fault, task_fault, opening_fault}
use Rattle.library_book.specs.Audit.{kept_fault, sum_fault}
use Rattle.library_book.specs.declared.codes.TheConstants.{DONE}
use Rattle.library_book.specs.declared.memory.TheConstants.{FLAT_QUEUES_MAX, FLAT_TASKS_MAX}
use Rattle.library_book.specs.declared.memory.NdTask.{NdTask}
use Rattle.library_book.specs.declared.memory.NdRunqueue.{NdRunqueue}

-- the number of the first that has a fault, where they are numbered from i on
abbrev pub first_at : {A : Type 0} → (A → ℕ) → ℕ → List A → ℕ
first_at fault i [] = i
first_at fault i (x ∷ xs) = if fault x == DONE then first_at fault (i + 1) xs else i

-- the same of runqueues whose sums have a fault
abbrev pub first_sum : Records → ℕ → List NdRunqueue → ℕ
first_sum book r [] = r
first_sum book r (q ∷ qs) = if sum_fault book r q == DONE then first_sum book (r + 1) qs else r

-- of a book that is to be opened: 0 where there are too many or no runqueues, else the first runqueue with a fault, else the first task
abbrev pub opening_number : List NdTask → List NdRunqueue → ℕ
opening_number tasks queues =
    if nat_lt FLAT_QUEUES_MAX (length queues) || nat_lt FLAT_TASKS_MAX (length tasks) || length queues == 0 then 0
    else (if first_fault queue_fault queues == DONE then first_at task_fault 0 tasks else first_at queue_fault 0 queues)

-- of memory that is to be a book: as above, else the first task with a fault of its record, else the first runqueue with one of its sums
abbrev pub audit_number : List NdTask → List NdRunqueue → ℕ
audit_number tasks queues =
    if opening_fault tasks queues == DONE
    then (if first_fault (kept_fault (length queues)) tasks == DONE then first_sum (records_of tasks) 0 queues else first_at (kept_fault (length queues)) 0 tasks)
    else opening_number tasks queues
