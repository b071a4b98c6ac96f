-- What a move comes to, before anything is written.
use Rattle.std.specs.Prelude.{◌≡◌, ℕ, ◌<◌, List, slice_set, slice_index_or}
use Rattle.grub_book.specs.Machine.{Machine}
use Rattle.grub_book.specs.Step.{Refuses}
use Rattle.library_book.specs.Asked.{reply_of}
use Rattle.library_book.specs.Memory.{records_of, IsBook}
use Rattle.library_book.specs.Move.{move_step, reply_from}
use Rattle.library_book.specs.declared.moving.Outcome.{Outcome}
use Rattle.library_book.specs.declared.moving.Outcome.TheVariants.{Refused, Granted}
use Rattle.library_book.specs.declared.asked.NdReply.{NdReply}
use Rattle.library_book.specs.declared.memory.NdTask.{NdTask}
use Rattle.library_book.specs.declared.memory.NdRunqueue.{NdRunqueue}

abbrev pub no_task : NdTask
no_task = record { runtime = 0; period = 0; budget = 0; deadline = 0; count = 0; state = 0; queue = 0 }

-- task t with runqueue r
abbrev pub task_on : List NdTask → ℕ → ℕ → NdTask
task_on tasks t r = record (slice_index_or tasks t no_task) { queue = r }

-- the reply in plain numbers
abbrev pub reply_told : Outcome → NdReply
reply_told (Refused reply) = reply_of reply
reply_told (Granted from left reached) = reply_from from

-- of memory that is a book: the reply is the move's, and where it is granted the memory is the book after it
abbrev pub IsMoving : Machine → List NdTask → List NdRunqueue → ℕ → ℕ → Outcome → Type 0
IsMoving s tasks queues t r (Refused reply) = (records_of tasks, reply_of reply) ≡ move_step s (records_of tasks) t r
IsMoving s tasks queues t r (Granted from left reached) =
    ((records_of (slice_set tasks t (task_on tasks t r)), reply_from from) ≡ move_step s (records_of tasks) t r)
    × IsBook s (slice_set tasks t (task_on tasks t r)) (slice_set (slice_set queues from left) r reached)

-- of any memory: a refusal refuses, and the runqueue that is left is there
abbrev pub IsInside : ℕ → Outcome → Type 0
IsInside queues (Refused reply) = Refuses reply
IsInside queues (Granted from left reached) = from < queues
