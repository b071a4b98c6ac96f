-- What is asked for a script: a relation on the finished list of entries.
use Rattle.std.specs.Prelude.{◌≡◌, ℕ, List, [], ◌∷◌, ◌++◌}
use Rattle.std.specs.List.{FoldsTo}
use Rattle.grub_book.specs.declared.op.Op.TheVariants as ops
use Rattle.grub_book.specs.declared.reply.Reply.TheVariants as replies
use Rattle.grub_plan.specs.declared.line.Act.{Act}
use Rattle.grub_plan.specs.declared.line.Act.TheVariants as acts
use Rattle.grub_plan.specs.Plans.{Line}
use Rattle.grub_plan.specs.declared.entry.Ask.{Ask}
use Rattle.grub_plan.specs.declared.entry.Ask.TheVariants.{Call, Read}
use Rattle.grub_plan.specs.declared.entry.Answer.{Answer}
use Rattle.grub_plan.specs.declared.entry.Answer.TheVariants.{Replied}
use Rattle.grub_plan.specs.declared.entry.Entry.{Entry}
use Rattle.grub_wheel.specs.declared.timer.Timer.{Timer}
use Rattle.grub_plan.specs.Timers.{armed, IsNextDue, NoneDue}

abbrev pub entry : ℕ → Ask → Answer → Entry
entry m ask answer = record { m = m; ask = ask; answer = answer }

-- one entry more, with this moment and ask
pub record AsksOne (m : ℕ) (ask : Ask) (before after : List Entry) : Type 0 where
  pub answer : Answer
  pub list : after ≡ before ++ entry m ask answer ∷ []

-- the next timer that is due by m is asked for, at its own moment
pub record AsksTimer (m : ℕ) (before : List Entry) (timer : Timer) (after : List Entry) : Type 0 where
  pub next : IsNextDue (armed before) m timer
  pub asks : AsksOne timer.z (Call timer.t (ops.Timer timer.ticket timer.z)) before after

-- timers that are due by m are asked for until none is left
pub record AsksDue (m : ℕ) (before after : List Entry) : Type 0 where
  pub timers : List Timer
  pub each : FoldsTo (AsksTimer m) before timers after
  pub none : NoneDue (armed after) m

-- what a line of runqueue r asks at moment m
abbrev pub ask_of : ℕ → ℕ → Act ℕ ℕ → Ask
ask_of r m (acts.Join t) = Call t (ops.Join r m)
ask_of r m (acts.Wake t) = Call t (ops.Wake r m)
ask_of r m (acts.Block t) = Call t (ops.Block r m)
ask_of r m (acts.Leave t) = Call t ops.Leave
ask_of r m (acts.Exit t) = Call t ops.Exit
ask_of r m (acts.Run t dt) = Call t (ops.Charge r dt)
ask_of r m (acts.Retune t q p) = Call t (ops.Retune q p)
ask_of r m acts.Read = Read

-- where the Leave was answered Left, the task joins here
abbrev pub JoinsAfter : ℕ → ℕ → ℕ → Answer → List Entry → List Entry → Type 0
JoinsAfter r m t (Replied (replies.Left s)) before after = AsksOne m (Call t (ops.Join r m)) before after
JoinsAfter r m t answer before after = after ≡ before

-- the task leaves, and where it did it joins here
pub record MovesHere (r m t : ℕ) (before after : List Entry) : Type 0 where
  pub answer : Answer
  pub left : List Entry
  pub leaves : left ≡ before ++ entry m (Call t ops.Leave) answer ∷ []
  pub joins : JoinsAfter r m t answer left after

-- where a Wake was answered Elsewhere, the task moves here; after any other answer nothing more is asked
abbrev pub Follows : ℕ → ℕ → Act ℕ ℕ → Answer → List Entry → List Entry → Type 0
Follows r m (acts.Wake t) (Replied (replies.Elsewhere s)) before after = MovesHere r m t before after
Follows r m act answer before after = after ≡ before

-- the entries of one line: due timers, the line, and what follows a Wake
pub record AsksLine (r : ℕ) (before : List Entry) (line : Line) (after : List Entry) : Type 0 where
  pub due : List Entry
  pub answer : Answer
  pub asked : List Entry
  pub timers : AsksDue line.m before due
  pub line_asked : asked ≡ due ++ entry line.m (ask_of r line.m line.act) answer ∷ []
  pub follows : Follows r line.m line.act answer asked after

-- the entries are those of the script's lines, in order, and nothing else
abbrev pub Asked : ℕ → List Line → List Entry → Type 0
Asked r script entries = FoldsTo (AsksLine r) [] script entries
