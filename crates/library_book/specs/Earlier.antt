-- A recorded history of a book whose origin was moved: the same, with moments earlier by so much, and with tickets less by the count that was forgotten.
use Rattle.std.specs.Prelude.{◌≡◌, ◌≢◌, ℕ, ◌-◌, ◌==◌, ◌||◌, List, [], ◌∷◌, map, IfSome, ⊤, if◌then◌else◌}
use Rattle.grub_book.specs.Earlier.{IsSince}
use Rattle.library_book.specs.Asked.{op_of}
use Rattle.library_book.specs.declared.asked.NdEvent.{NdEvent}
use Rattle.library_book.specs.declared.asked.NdOp.{NdOp}
use Rattle.library_book.specs.declared.asked.NdReply.{NdReply}
use Rattle.library_book.specs.declared.checker.TheConstants.{CALL, REBASE}

-- a timer has a ticket and a moment, a join, a wake and a block have a moment
abbrev pub op_earlier : ℕ → ℕ → NdOp → NdOp
op_earlier by count op =
    if op.kind == 5 then record op { a = op.a - count; b = op.b - by }
    else (if op.kind == 1 || op.kind == 2 || op.kind == 3 then record op { b = op.b - by }
    else op)

-- waiting has a ticket and a 0-lag time; joined, woken, charged and early have a deadline or a 0-lag time
abbrev pub reply_earlier : ℕ → ℕ → NdReply → NdReply
reply_earlier by count reply =
    if reply.kind == 103 then record reply { number = reply.number - count; deadline = reply.deadline - by }
    else (if reply.kind == 101 || reply.kind == 102 || reply.kind == 108 || reply.kind == 19 then record reply { deadline = reply.deadline - by }
    else reply)

-- (of a reading neither is looked at)
abbrev pub event_earlier : ℕ → (ℕ → ℕ) → NdEvent → NdEvent
event_earlier by counts x = record x { op = op_earlier by (counts x.number) x.op; reply = reply_earlier by (counts x.number) x.reply }

-- No other rebase. A call is at the moment by or later, with a ticket no less than the count that is forgotten, and its reply is not one that may come later.
pub record IsRecordedSince (by : ℕ) (counts : ℕ → ℕ) (x : NdEvent) : Type 0 where
  pub alone : x.kind ≢ REBASE
  pub since : x.kind ≡ CALL → IfSome (op_of x.op) (λ op. IsSince by (counts x.number) op)
  pub unworn : x.kind ≡ CALL → x.reply.kind ≢ 17
  pub in_range : x.kind ≡ CALL → x.reply.kind ≢ 21

abbrev pub AreRecordedSince : ℕ → (ℕ → ℕ) → List NdEvent → Type 0
AreRecordedSince by counts [] = ⊤
AreRecordedSince by counts (x ∷ xs) = IsRecordedSince by counts x × AreRecordedSince by counts xs

abbrev pub history_earlier : ℕ → (ℕ → ℕ) → List NdEvent → List NdEvent
history_earlier by counts xs = map (event_earlier by counts) xs
