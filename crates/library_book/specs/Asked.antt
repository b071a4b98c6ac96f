-- What is asked and answered in plain numbers.
use Rattle.std.specs.Prelude.{ℕ, ◌==◌, nat_lt, nat_le, ◌&&◌, Bool, true, false, Option, Some, None, if◌then◌else◌}
use Rattle.grub_book.specs.Bandwidth.{reservation_fits}
use Rattle.grub_book.specs.declared.server.TheConstants.{MOMENT_MAX}
use Rattle.grub_book.specs.declared.op.TheConstants.{RUN_MAX}
use Rattle.grub_book.specs.declared.op.Op.{Op}
use Rattle.grub_book.specs.declared.op.Op.TheVariants.{Join, Wake, Block, Leave, Timer, Exit, Charge, Retune}
use Rattle.grub_book.specs.declared.reply.Reply.{Reply}
use Rattle.grub_book.specs.declared.reply.Reply.TheVariants.{Joined, Woken, Waiting, Asleep, Left, Retired, Ended, Charged, Retuned, Gone as GoneReply, NotOn, AlreadyOn, Elsewhere, AlreadyContending, NotContending, StillContending, StillActive, Worn, Stale, Early, Full, DeadlineOverflow}
use Rattle.library_book.specs.declared.asked.NdOp.{NdOp}
use Rattle.library_book.specs.declared.asked.NdReply.{NdReply}

-- what is asked: 1 join, 2 wake, 3 block, 4 leave, 5 timer, 6 exit, 7 charge, 8 retune
abbrev pub op_of : NdOp → Option Op
op_of op =
    if op.kind == 1 then Some (Join op.a op.b)
    else (if op.kind == 2 then Some (Wake op.a op.b)
    else (if op.kind == 3 then Some (Block op.a op.b)
    else (if op.kind == 4 then Some Leave
    else (if op.kind == 5 then Some (Timer op.a op.b)
    else (if op.kind == 6 then Some Exit
    else (if op.kind == 7 then Some (Charge op.a op.b)
    else (if op.kind == 8 then Some (Retune op.a op.b)
    else None)))))))

-- whether the op may be asked where there are so many runqueues, as a test: the IsOp of `grub_book`
abbrev pub op_fits : ℕ → Op → Bool
op_fits queues (Join r m) = nat_lt r queues && nat_le m MOMENT_MAX
op_fits queues (Wake r m) = nat_lt r queues && nat_le m MOMENT_MAX
op_fits queues (Block r m) = nat_lt r queues && nat_le m MOMENT_MAX
op_fits queues Leave = true
op_fits queues (Timer ticket m) = nat_le m MOMENT_MAX
op_fits queues Exit = true
op_fits queues (Charge r dt) = nat_lt r queues && nat_le 1 dt && nat_le dt RUN_MAX
op_fits queues (Retune q p) = reservation_fits (record { runtime = q; period = p })

-- the same where there may be no such op
abbrev pub may_ask : ℕ → Option Op → Bool
may_ask queues None = false
may_ask queues (Some op) = op_fits queues op

abbrev pub plain_reply : ℕ → NdReply
plain_reply kind = record { kind = kind; number = 0; budget = 0; deadline = 0; charged = 0 }

abbrev pub reply_of : Reply → NdReply
reply_of (Joined q d) = record { kind = 101; number = 0; budget = q; deadline = d; charged = 0 }
reply_of (Woken q d) = record { kind = 102; number = 0; budget = q; deadline = d; charged = 0 }
reply_of (Waiting ticket z) = record { kind = 103; number = ticket; budget = 0; deadline = z; charged = 0 }
reply_of Asleep = plain_reply 104
reply_of (Left r) = record { kind = 105; number = r; budget = 0; deadline = 0; charged = 0 }
reply_of Retired = plain_reply 106
reply_of Ended = plain_reply 107
reply_of (Charged k q d dq) = record { kind = 108; number = k; budget = q; deadline = d; charged = dq }
reply_of Retuned = plain_reply 109
reply_of GoneReply = plain_reply 9
reply_of NotOn = plain_reply 10
reply_of (AlreadyOn r) = record { kind = 11; number = r; budget = 0; deadline = 0; charged = 0 }
reply_of (Elsewhere r) = record { kind = 12; number = r; budget = 0; deadline = 0; charged = 0 }
reply_of AlreadyContending = plain_reply 13
reply_of NotContending = plain_reply 14
reply_of StillContending = plain_reply 15
reply_of StillActive = plain_reply 16
reply_of Worn = plain_reply 17
reply_of Stale = plain_reply 18
reply_of (Early z) = record { kind = 19; number = 0; budget = 0; deadline = z; charged = 0 }
reply_of Full = plain_reply 20
reply_of DeadlineOverflow = plain_reply 21
