-- What an answer does to a wheel, and the wheel that keeps the timers of a list of entries.
use Rattle.std.specs.Prelude.{◌≡◌, ◌<◌, ◌+◌, ℕ, None, nat_eq, if◌then◌else◌, unwrap_or}
use Rattle.std.specs.FinMap as map
use Rattle.grub_book.specs.declared.op.Op.{Op}
use Rattle.grub_book.specs.declared.op.Op.TheVariants as ops
use Rattle.grub_book.specs.declared.reply.Reply.TheVariants as replies
use Rattle.grub_plan.specs.declared.entry.Answer.{Answer}
use Rattle.grub_plan.specs.declared.entry.Answer.TheVariants as answers
use Rattle.grub_wheel.specs.TimerBag.{TimerBag, WheelState}
use Rattle.grub_plan.specs.Timers.{Touch}

-- what an answer did to the timers: that of task t was touched so, and the others stay
abbrev pub IsTouched : TimerBag → TimerBag → ℕ → Touch → Type 0
IsTouched old new t touch = (u : ℕ) → map.get new u ≡ unwrap_or (if nat_eq u t then touch else None) (map.get old u)

-- how many timers have a place, armed or not
abbrev pub places_of : WheelState → ℕ
places_of w = w.spare + map.len w.timers

abbrev pub IsBlock : Op → Type 0
IsBlock (ops.Block r m) = Unit {0}
IsBlock op = ⊥

-- an op of a script, and not of a timer
abbrev pub IsNoTimer : Op → Type 0
IsNoTimer (ops.Timer ticket m) = ⊥
IsNoTimer op = Unit {0}

-- only a block waits, for a moment that is still to come
abbrev pub IsBlockBefore : ℕ → Op → Type 0
IsBlockBefore z (ops.Block r m) = m < z
IsBlockBefore z op = ⊥

abbrev pub WaitsRightly : Op → Answer → Type 0
WaitsRightly op answer = (ticket z : ℕ) → answer ≡ answers.Replied (replies.Waiting ticket z) → IsBlockBefore z op
