-- What is wrong with memory that is to be a book.
use Rattle.std.specs.Prelude.{ℕ, ◌+◌, ◌==◌, nat_lt, List, [], ◌∷◌, length, if◌then◌else◌}
use Rattle.grub_book.specs.Sums.{Records, reading_of}
use Rattle.grub_book.specs.declared.rules.TheConstants.{COUNT_MAX}
use Rattle.grub_book.specs.declared.place.Place.{Place}
use Rattle.grub_book.specs.declared.place.Place.TheVariants.{On}
use Rattle.library_book.specs.Memory.{record_of, records_of, state_max}
use Rattle.library_book.specs.Numbers.{or_else, budget_fault}
use Rattle.library_book.specs.Opening.{first_fault, opening_fault}
use Rattle.library_book.specs.declared.codes.TheConstants.{DONE, COUNT_OUT_OF_RANGE, QUEUE_OUT_OF_RANGE, STATE_OUT_OF_RANGE, WRONG_RUNNING_BW, WRONG_THIS_BW, OVERFULL}
use Rattle.library_book.specs.declared.memory.NdTask.{NdTask}
use Rattle.library_book.specs.declared.memory.NdRunqueue.{NdRunqueue}

abbrev pub count_fault : ℕ → ℕ
count_fault count = if nat_lt COUNT_MAX count then COUNT_OUT_OF_RANGE else DONE

-- where there are so many runqueues
abbrev pub place_fault : ℕ → Place → ℕ
place_fault queues (On r state) = if nat_lt r queues then DONE else QUEUE_OUT_OF_RANGE
place_fault queues place = DONE

-- where there is no such state
abbrev pub state_fault : ℕ → ℕ
state_fault state = if nat_lt state_max state then STATE_OUT_OF_RANGE else DONE

-- the first fault of a task's record: 60 budget, 63 count, 68 state, 64 runqueue
abbrev pub kept_fault : ℕ → NdTask → ℕ
kept_fault queues x =
    let held = record_of x in
    or_else (budget_fault held.server held.params) (or_else (count_fault held.count) (or_else (state_fault x.state) (place_fault queues held.place)))

-- the first fault of a runqueue's sums: 65 and 66 where running_bw and this_bw are not what its tasks add up to, 67 where that is more than umax
abbrev pub sum_fault : Records → ℕ → NdRunqueue → ℕ
sum_fault book r q =
    let fresh = reading_of book r in
    or_else (if q.running_bw == fresh.running then DONE else WRONG_RUNNING_BW)
    (or_else (if q.this_bw == fresh.this then DONE else WRONG_THIS_BW)
    (if nat_lt q.umax q.this_bw then OVERFULL else DONE))

-- of runqueues from this number on
abbrev pub sums_fault : Records → ℕ → List NdRunqueue → ℕ
sums_fault book r [] = DONE
sums_fault book r (q ∷ qs) = or_else (sum_fault book r q) (sums_fault book (r + 1) qs)

-- the first fault: of what nd_open looks at, then of the tasks in order, then of the runqueues in order
abbrev pub audit_fault : List NdTask → List NdRunqueue → ℕ
audit_fault tasks queues =
    or_else (opening_fault tasks queues) (or_else (first_fault (kept_fault (length queues)) tasks) (sums_fault (records_of tasks) 0 queues))
