-- Which timers are armed after a list of entries, and which of them is due next.
use Rattle.std.specs.Prelude.{◌≡◌, ℕ, ◌<◌, ◌≤◌, Option, Some, None, nat_eq, if◌then◌else◌, unwrap_or, List, fold}
use Rattle.grub_book.specs.declared.op.Op.{Op}
use Rattle.grub_book.specs.declared.op.Op.TheVariants.{Block, Timer}
use Rattle.grub_book.specs.declared.reply.Reply.TheVariants.{Joined, Woken, Waiting, Left}
use Rattle.grub_wheel.specs.declared.timer.Timer.{Timer as WheelTimer}
use Rattle.grub_wheel.specs.TimerBag.{IsNotAfter}
use Rattle.grub_plan.specs.declared.entry.Ask.{Ask}
use Rattle.grub_plan.specs.declared.entry.Ask.TheVariants.{Call, Read}
use Rattle.grub_plan.specs.declared.entry.Answer.{Answer}
use Rattle.grub_plan.specs.declared.entry.Answer.TheVariants.{Replied}
use Rattle.grub_plan.specs.declared.entry.Entry.{Entry}

-- when a timer is due, and its ticket
abbrev pub Alarm : Type 0
Alarm = ℕ × ℕ

-- what an entry makes of the timer of a task, where it touches it: nothing, or another alarm
abbrev pub Touch : Type 0
Touch = Option (Option Alarm)

-- A timer that was asked for is armed no longer, whatever the answer, and a task that joined, woke or left has none. A block that waits arms one.
abbrev pub touch_of_call : Op → Answer → Touch
touch_of_call (Timer ticket m) answer = Some None
touch_of_call (Block r m) (Replied (Waiting ticket z)) = Some (Some (z, ticket))
touch_of_call op (Replied (Joined q d)) = Some None
touch_of_call op (Replied (Woken q d)) = Some None
touch_of_call op (Replied (Left r)) = Some None
touch_of_call op answer = None

-- what an ask and its answer do to the timer of task t
abbrev pub touch : ℕ → Ask → Answer → Touch
touch t (Call u op) answer = if nat_eq t u then touch_of_call op answer else None
touch t Read answer = None

-- the timer of task t after the entries: what the last entry that touches it left
abbrev pub armed : List Entry → ℕ → Option Alarm
armed entries t = fold (λ alarm e. unwrap_or (touch t e.ask e.answer) alarm) None entries

-- of these timers, x is the least that is due by m
pub record IsNextDue (timers : ℕ → Option Alarm) (m : ℕ) (x : WheelTimer) : Type 0 where
  pub armed : timers x.t ≡ Some (x.z, x.ticket)
  pub due : x.z ≤ m
  pub least : (y : WheelTimer) → timers y.t ≡ Some (y.z, y.ticket) → y.z ≤ m → IsNotAfter x y

-- none is due by m
abbrev pub NoneDue : (ℕ → Option Alarm) → ℕ → Type 0
NoneDue timers m = (x : WheelTimer) → timers x.t ≡ Some (x.z, x.ticket) → m < x.z
