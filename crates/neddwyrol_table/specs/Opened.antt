-- How a table is opened for C.
use Rattle.std.specs.Prelude.{ℕ, ◌==◌, nat_lt, List, length, if◌then◌else◌}
use Rattle.grub_book.specs.Machine.{Machine}
use Rattle.grub_book.specs.declared.setup.TheConstants.{QUEUES_MAX, TASKS_MAX}
use Rattle.grub_table.specs.Calls.{IsOpened}
use Rattle.library_book.specs.Numbers.{or_else}
use Rattle.library_book.specs.Opening.{first_fault, task_fault, queue_fault}
use Rattle.library_book.specs.declared.codes.TheConstants.{TOO_MANY_QUEUES, TOO_MANY_TASKS, NO_QUEUE}
use Rattle.library_book.specs.declared.memory.NdTask.{NdTask}
use Rattle.library_book.specs.declared.memory.NdRunqueue.{NdRunqueue}
use Rattle.neddwyrol_table.specs.declared.held.Held.{Held}
use Rattle.neddwyrol_table.specs.declared.held.Kept.{Kept}
use Rattle.neddwyrol_table.specs.declared.opening.TheConstants.{PASSES_MAX, NO_PASS, TOO_MANY_PASSES, NO_TABLE_MEMORY}
use Rattle.neddwyrol_table.specs.Called.{Keeps, table_of, passes_of}

-- the first fault of a setup: too many runqueues, too many tasks, no runqueue, then of the runqueues in order, and then of the tasks in order
abbrev pub setup_fault : List NdTask → List NdRunqueue → ℕ
setup_fault tasks queues =
    if nat_lt QUEUES_MAX (length queues) then TOO_MANY_QUEUES
    else (if nat_lt TASKS_MAX (length tasks) then TOO_MANY_TASKS
    else (if length queues == 0 then NO_QUEUE
    else or_else (first_fault queue_fault queues) (first_fault task_fault tasks)))

-- a table of these runqueues and tasks, with all its passes
abbrev pub IsOpenedFor : Machine → ℕ → Held → Type 0
IsOpenedFor machine n h = (k : Kept) → Keeps h k → IsOpened (table_of k) (passes_of k) machine n

-- why there are not so many passes
abbrev pub passes_fault : ℕ → ℕ
passes_fault n = if n == 0 then NO_PASS else (if nat_lt PASSES_MAX n then TOO_MANY_PASSES else NO_TABLE_MEMORY)

-- why no table is opened: the first fault of the setup, else of the number of passes, else memory was refused
abbrev pub open_fault : List NdTask → List NdRunqueue → ℕ → ℕ
open_fault tasks queues n = or_else (setup_fault tasks queues) (passes_fault n)
