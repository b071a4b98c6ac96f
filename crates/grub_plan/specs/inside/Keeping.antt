-- A wheel that has the timers which the entries leave, and the ops that a line asks for.
use Rattle.std.specs.Prelude.{◌≡◌, ◌<◌, ℕ, Some, List, length}
use Rattle.grub_book.specs.Machine.{Machine}
use Rattle.grub_book.specs.declared.op.Op.{Op}
use Rattle.grub_book.specs.declared.op.Op.TheVariants as ops
use Rattle.grub_plan.specs.declared.entry.Entry.{Entry}
use Rattle.grub_wheel.specs.TimerBag.{TimerBag}
use Rattle.grub_plan.specs.Timers.{Alarm, armed}
use Rattle.std.specs.FinMap as map

-- the wheel has the timers that the entries leave, all of tasks that are there
pub record IsKept (s : Machine) (entries : List Entry) (timers : TimerBag) : Type 0 where
  pub armed_are : (t : ℕ) → map.get timers t ≡ armed entries t
  pub tasks : (t : ℕ) (a : Alarm) → armed entries t ≡ Some a → t < length s.tasks

-- an op that a line at moment m asks for
abbrev pub IsLineOp : ℕ → Op → Type 0
IsLineOp m (ops.Join r k) = k ≡ m
IsLineOp m (ops.Wake r k) = k ≡ m
IsLineOp m (ops.Block r k) = k ≡ m
IsLineOp m (ops.Timer ticket k) = ⊥
IsLineOp m op = Unit {0}
