-- What a plan is seen as.
use Rattle.std.specs.Prelude.{ℕ, ◌<◌, List, [], Option, Some, None, slice_index_or}
use Rattle.grub_book.specs.Machine.{Machine}
use Rattle.grub_plan.specs.declared.line.Act.{Act}
use Rattle.grub_plan.specs.declared.line.Act.TheVariants.{Join, Wake, Block, Leave, Exit, Run, Retune, Read}
use Rattle.grub_plan.specs.declared.line.Line as lines
use Rattle.grub_plan.specs.declared.entry.Ask.{Ask}
use Rattle.grub_plan.specs.declared.entry.Ask.TheVariants as asks
use Rattle.grub_plan.specs.declared.entry.Ask.TheVariants.{Call}

-- the name, or the number, of the task that an act is of
abbrev pub named : {N V : Type 0} → Act N V → Option N
named (Join t) = Some t
named (Wake t) = Some t
named (Block t) = Some t
named (Leave t) = Some t
named (Exit t) = Some t
named (Run t dt) = Some t
named (Retune t q p) = Some t
named Read = None

-- a line of a script, with the number of the task
abbrev pub Line : Type 0
Line = lines.Line ℕ

-- the runqueues and tasks of all files, the name of each task, and a script for each file
pub record PlanView : Type 0 where
  pub setup : Machine
  pub names : List (List ℕ)
  pub scripts : List (List Line)

-- the script of a runqueue: no lines, where it has no file
abbrev pub script_at : List (List Line) → ℕ → List Line
script_at scripts r = slice_index_or scripts r []

-- the name of a task, which is to be there
abbrev pub name_at : List (List ℕ) → ℕ → List ℕ
name_at names t = slice_index_or names t []

-- an ask is of one of so many tasks
abbrev pub IsAskOf : ℕ → Ask → Type 0
IsAskOf n (Call t op) = t < n
IsAskOf n asks.Read = Unit {0}
