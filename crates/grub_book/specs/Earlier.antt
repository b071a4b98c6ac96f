-- What is told of a book whose origin was moved: the same, with moments earlier by so much, and with tickets less by the count that was forgotten.
use Rattle.std.specs.Prelude.{ℕ, ◌-◌, ◌≤◌, List, [], ◌∷◌, map, ⊤}
use Rattle.grub_book.specs.Sums.{Records, record_at}
use Rattle.grub_book.specs.Rebase.{forgotten}
use Rattle.grub_book.specs.declared.event.Event.{Event}
use Rattle.grub_book.specs.declared.event.Event.TheVariants.{Call, Look}
use Rattle.grub_book.specs.declared.op.Op.{Op}
use Rattle.grub_book.specs.declared.op.Op.TheVariants.{Join, Wake, Block, Timer}
use Rattle.grub_book.specs.declared.reply.Reply.{Reply}
use Rattle.grub_book.specs.declared.reply.Reply.TheVariants.{Joined, Woken, Waiting, Charged, Worn, Early, DeadlineOverflow}

abbrev pub op_earlier : ℕ → ℕ → Op → Op
op_earlier by count (Join r m) = Join r (m - by)
op_earlier by count (Wake r m) = Wake r (m - by)
op_earlier by count (Block r m) = Block r (m - by)
op_earlier by count (Timer ticket m) = Timer (ticket - count) (m - by)
op_earlier by count op = op

abbrev pub reply_earlier : ℕ → ℕ → Reply → Reply
reply_earlier by count (Joined q d) = Joined q (d - by)
reply_earlier by count (Woken q d) = Woken q (d - by)
reply_earlier by count (Waiting ticket z) = Waiting (ticket - count) (z - by)
reply_earlier by count (Charged k q d dq) = Charged k q (d - by) dq
reply_earlier by count (Early z) = Early (z - by)
reply_earlier by count reply = reply

-- the counts that are forgotten, by task
abbrev pub forgotten_of : Records → ℕ → ℕ
forgotten_of book t = forgotten (record_at book t)

abbrev pub event_earlier : ℕ → (ℕ → ℕ) → Event → Event
event_earlier by counts (Call pass task op reply) = Call pass task (op_earlier by (counts task) op) (reply_earlier by (counts task) reply)
event_earlier by counts (Look pass queue reading) = Look pass queue reading

-- At the moment by or later. A ticket is no less than the count that is forgotten: those given since are more, and of a task that waits none is forgotten.
abbrev pub IsSince : ℕ → ℕ → Op → Type 0
IsSince by count (Join r m) = by ≤ m
IsSince by count (Wake r m) = by ≤ m
IsSince by count (Block r m) = by ≤ m
IsSince by count (Timer ticket m) = (count ≤ ticket) × (by ≤ m)
IsSince by count op = ⊤

-- not a reply that may come later once the origin was moved
abbrev pub IsLasting : Reply → Type 0
IsLasting Worn = ⊥
IsLasting DeadlineOverflow = ⊥
IsLasting reply = ⊤

abbrev pub IsEventSince : ℕ → (ℕ → ℕ) → Event → Type 0
IsEventSince by counts (Call pass task op reply) = IsSince by (counts task) op × IsLasting reply
IsEventSince by counts (Look pass queue reading) = ⊤

abbrev pub AreSince : ℕ → (ℕ → ℕ) → List Event → Type 0
AreSince by counts [] = ⊤
AreSince by counts (e ∷ events) = IsEventSince by counts e × AreSince by counts events

abbrev pub events_earlier : ℕ → (ℕ → ℕ) → List Event → List Event
events_earlier by counts events = map (event_earlier by counts) events
