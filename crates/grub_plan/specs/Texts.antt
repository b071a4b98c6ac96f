-- The text of a report.
use Rattle.std.specs.Prelude.{ℕ, List, ◌++◌, codes, decimal}
use Rattle.std.specs.List.{flat_map}
use Rattle.grub_book.specs.declared.op.Op.{Op}
use Rattle.grub_book.specs.declared.op.Op.TheVariants as op
use Rattle.grub_book.specs.declared.reply.Reply.{Reply}
use Rattle.grub_book.specs.declared.reply.Reply.TheVariants as reply
use Rattle.grub_book.specs.declared.event.Reading.{Reading}
use Rattle.grub_plan.specs.declared.entry.Ask.{Ask}
use Rattle.grub_plan.specs.declared.entry.Ask.TheVariants as ask
use Rattle.grub_plan.specs.declared.entry.Answer.{Answer}
use Rattle.grub_plan.specs.declared.entry.Answer.TheVariants as answer
use Rattle.grub_plan.specs.declared.entry.Entry.{Entry}
use Rattle.grub_plan.specs.Plans.{name_at}

abbrev pub reading_text : Reading → List ℕ
reading_text x = codes "running=" ++ decimal x.running ++ codes " this=" ++ decimal x.this

-- what was asked for the task of this name
unfoldable pub op_text : List ℕ → Op → List ℕ
op_text name (op.Join r m) = codes "join " ++ name
op_text name (op.Wake r m) = codes "wake " ++ name
op_text name (op.Block r m) = codes "block " ++ name
op_text name op.Leave = codes "leave " ++ name
op_text name (op.Timer ticket m) = codes "timer " ++ name ++ codes " " ++ decimal ticket
op_text name op.Exit = codes "exit " ++ name
op_text name (op.Charge r dt) = codes "run " ++ name ++ codes " " ++ decimal dt
op_text name (op.Retune q p) = codes "retune " ++ name ++ codes " " ++ decimal q ++ codes " " ++ decimal p

unfoldable pub ask_text : List (List ℕ) → Ask → List ℕ
ask_text names (ask.Call t o) = op_text (name_at names t) o
ask_text names ask.Read = codes "read"

-- a budget and a deadline, after the words in front
abbrev pub server_text : List ℕ → ℕ → ℕ → List ℕ
server_text front q d = front ++ codes "q=" ++ decimal q ++ codes " d=" ++ decimal d

unfoldable pub reply_text : Reply → List ℕ
reply_text (reply.Joined q d) = server_text (codes "joined ") q d
reply_text (reply.Woken q d) = server_text (codes "woken ") q d
reply_text (reply.Waiting ticket z) = codes "waiting ticket=" ++ decimal ticket ++ codes " z=" ++ decimal z
reply_text reply.Asleep = codes "asleep"
reply_text (reply.Left r) = codes "left " ++ decimal r
reply_text reply.Retired = codes "retired"
reply_text reply.Ended = codes "ended"
reply_text (reply.Charged k q d dq) = server_text (codes "charged dq=" ++ decimal dq ++ codes " k=" ++ decimal k ++ codes " ") q d
reply_text reply.Retuned = codes "retuned"
reply_text reply.Gone = codes "gone"
reply_text reply.NotOn = codes "not-on"
reply_text (reply.AlreadyOn r) = codes "already-on " ++ decimal r
reply_text (reply.Elsewhere r) = codes "elsewhere " ++ decimal r
reply_text reply.AlreadyContending = codes "already-contending"
reply_text reply.NotContending = codes "not-contending"
reply_text reply.StillContending = codes "still-contending"
reply_text reply.StillActive = codes "still-active"
reply_text reply.Worn = codes "worn"
reply_text reply.Stale = codes "stale"
reply_text (reply.Early z) = codes "early z=" ++ decimal z
reply_text reply.Full = codes "full"
reply_text reply.DeadlineOverflow = codes "deadline-overflow"

unfoldable pub answer_text : Answer → List ℕ
answer_text (answer.Replied x) = reply_text x
answer_text (answer.Seen x) = reading_text x
answer_text answer.Busy = codes "busy"
answer_text answer.Lost = codes "lost"

-- the line of an entry, where the tasks have these names
unfoldable pub entry_line : List (List ℕ) → Entry → List ℕ
entry_line names e = codes "at " ++ decimal e.m ++ codes " " ++ ask_text names e.ask ++ codes ": " ++ answer_text e.answer ++ codes "\n"

-- the first and the last line of a report: the runqueue's number, and the closing reading
unfoldable pub head_line : ℕ → List ℕ
head_line r = codes "runqueue " ++ decimal r ++ codes "\n"

unfoldable pub close_line : Reading → List ℕ
close_line closing = codes "close " ++ reading_text closing ++ codes "\n"

-- the report of a runqueue: its number, a line for each entry, and the closing reading
unfoldable pub report_text : List (List ℕ) → ℕ → List Entry → Reading → List ℕ
report_text names r entries closing = head_line r ++ flat_map (entry_line names) entries ++ close_line closing
