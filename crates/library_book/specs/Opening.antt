-- What is wrong with the memory that a book is to be opened in.
use Rattle.std.specs.Prelude.{ℕ, ◌==◌, nat_lt, List, [], ◌∷◌, length, if◌then◌else◌}
use Rattle.library_book.specs.Memory.{params_of, constants_of}
use Rattle.library_book.specs.Numbers.{reservation_fault, constants_fault, or_else}
use Rattle.library_book.specs.declared.codes.TheConstants.{DONE, TOO_MANY_QUEUES, TOO_MANY_TASKS, NO_QUEUE}
use Rattle.library_book.specs.declared.memory.TheConstants.{FLAT_QUEUES_MAX, FLAT_TASKS_MAX}
use Rattle.library_book.specs.declared.memory.NdTask.{NdTask}
use Rattle.library_book.specs.declared.memory.NdRunqueue.{NdRunqueue}

-- the first fault in a list, and 0 where there is none
abbrev pub first_fault : {A : Type 0} → (A → ℕ) → List A → ℕ
first_fault fault [] = DONE
first_fault fault (x ∷ xs) = or_else (fault x) (first_fault fault xs)

abbrev pub task_fault : NdTask → ℕ
task_fault x = reservation_fault (params_of x)

abbrev pub queue_fault : NdRunqueue → ℕ
queue_fault x = constants_fault (constants_of x)

-- the first fault: too many runqueues, too many tasks, no runqueue, then of the runqueues in order, and then of the tasks in order
abbrev pub opening_fault : List NdTask → List NdRunqueue → ℕ
opening_fault tasks queues =
    if nat_lt FLAT_QUEUES_MAX (length queues) then TOO_MANY_QUEUES
    else (if nat_lt FLAT_TASKS_MAX (length tasks) then TOO_MANY_TASKS
    else (if length queues == 0 then NO_QUEUE
    else or_else (first_fault queue_fault queues) (first_fault task_fault tasks)))
