-- The answers of a book in plain numbers.
use Rattle.std.specs.Prelude.{ℕ, ◌==◌, nat_lt, ◌&&◌, ◌||◌, Bool, length, Option, Some, None, if◌then◌else◌}
use Rattle.grub_book.specs.Machine.{Machine}
use Rattle.grub_book.specs.Sums.{Records}
use Rattle.grub_book.specs.Step.{step}
use Rattle.grub_book.specs.declared.op.Op.{Op}
use Rattle.library_book.specs.Asked.{op_of, op_fits, may_ask, plain_reply, reply_of}
use Rattle.library_book.specs.Move.{move_step}
use Rattle.library_book.specs.declared.asked.TheConstants.{MOVE}
use Rattle.library_book.specs.declared.codes.TheConstants.{NO_TASK, NO_OP}
use Rattle.library_book.specs.declared.asked.NdOp.{NdOp}
use Rattle.library_book.specs.declared.asked.NdReply.{NdReply}

-- a move to a runqueue that is there, where there are so many
abbrev pub is_move : ℕ → NdOp → Bool
is_move queues op = op.kind == MOVE && nat_lt op.a queues

-- whether it may be asked: an op of the one-thread book, or a move
abbrev pub is_op : ℕ → NdOp → Bool
is_op queues op = may_ask queues (op_of op) || is_move queues op

-- a refusal that changes nothing, whatever the book
abbrev pub declined : Records → ℕ → Records × NdReply
declined book kind = (book, plain_reply kind)

-- the book after a step, and its reply in plain numbers
abbrev pub stepped : Machine → Records → ℕ → Op → Records × NdReply
stepped s book t op = let outcome = step s book t op in (outcome.0, reply_of outcome.1)

-- of an op that is none of the one-thread book's: a move, or nothing
abbrev pub answer_else : Machine → Records → ℕ → NdOp → Records × NdReply
answer_else s book t op = if is_move (length s.queues) op then move_step s book t op.a else declined book NO_OP

abbrev pub answer_to : Machine → Records → ℕ → NdOp → Option Op → Records × NdReply
answer_to s book t op None = answer_else s book t op
answer_to s book t op (Some it) = if op_fits (length s.queues) it then stepped s book t it else declined book NO_OP

-- what a book becomes, and what is answered: no such task, else no such op, else the step of the one-thread book, or the move
abbrev pub answer : Machine → Records → ℕ → NdOp → Records × NdReply
answer s book t op = if nat_lt t (length book) then answer_to s book t op (op_of op) else declined book NO_TASK
