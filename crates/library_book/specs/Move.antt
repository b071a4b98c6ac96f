-- A ready task goes to another runqueue as it is: the kernel's dequeue with DEQUEUE_SAVE and enqueue with ENQUEUE_RESTORE, as push and pull do.
-- It stands beside the steps of the one-thread book, which have no such op.
use Rattle.std.specs.Prelude.{◌≡◌, ◌≢◌, ◌≤◌, ℕ, ◌+◌, ◌==◌, nat_lt, slice_set, Option, Some, None, if◌then◌else◌}
use Rattle.grub_book.specs.Bandwidth.{bandwidth_of}
use Rattle.grub_book.specs.Machine.{Machine, queue_at}
use Rattle.grub_book.specs.Sums.{Records, record_at, this_of}
use Rattle.grub_book.specs.Step.{refused_charge, runqueue_of}
use Rattle.grub_book.specs.declared.op.Op.TheVariants.{Leave}
use Rattle.grub_book.specs.declared.place.State.TheVariants.{Contending}
use Rattle.grub_book.specs.declared.place.Place.{Place}
use Rattle.grub_book.specs.declared.place.Place.TheVariants.{Away, Gone, On}
use Rattle.grub_book.specs.declared.place.Record.{Record}
use Rattle.grub_book.specs.declared.reply.Reply.{Reply}
use Rattle.grub_book.specs.declared.reply.Reply.TheVariants.{Gone as GoneReply, NotOn, AlreadyOn, Full}
use Rattle.library_book.specs.Asked.{reply_of}
use Rattle.library_book.specs.declared.asked.NdReply.{NdReply}

-- the reply that the place alone decides: only a task that contends moves, and to another runqueue
abbrev pub refused_move : ℕ → Place → Option Reply
refused_move r Gone = Some GoneReply
refused_move r Away = Some NotOn
refused_move r (On from state) = if from == r then Some (AlreadyOn from) else refused_charge state

-- budget, deadline and count stay
abbrev pub moved_to : ℕ → Record → Record
moved_to r x = record x { place = On r Contending }

-- the reply: the runqueue that it left
abbrev pub reply_from : ℕ → NdReply
reply_from from = record { kind = 110; number = from; budget = 0; deadline = 0; charged = 0 }

-- where the place refuses nothing, and the runqueue is not full, the task is there
abbrev pub moved_in : Machine → Records → ℕ → ℕ → Records × NdReply
moved_in s book t r =
    let x = record_at book t in
    if nat_lt (queue_at s r).most (this_of book r + bandwidth_of x.params)
    then (book, reply_of Full)
    else (slice_set book t (moved_to r x), reply_from (runqueue_of x.place Leave))

abbrev pub unless_refused : Option Reply → Records → Records × NdReply → Records × NdReply
unless_refused (Some reply) book outcome = (book, reply_of reply)
unless_refused None book outcome = outcome

-- what the book becomes, and replies, where task t is to go to runqueue r
abbrev pub move_step : Machine → Records → ℕ → ℕ → Records × NdReply
move_step s book t r = unless_refused (refused_move r (record_at book t).place) book (moved_in s book t r)

-- A task contends on another runqueue than this one, which has room for it.
pub record IsMovable (s : Machine) (book : Records) (t r from : ℕ) : Type 0 where
  pub place : (record_at book t).place ≡ On from Contending
  pub elsewhere : from ≢ r
  pub room : this_of book r + bandwidth_of (record_at book t).params ≤ (queue_at s r).most
