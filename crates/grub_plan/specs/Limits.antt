-- What every plan keeps.
use Rattle.std.specs.Prelude.{◌≡◌, ℕ, ◌≤◌, ◌<◌, List, [], ◌∷◌, length, true}
use Rattle.std.specs.List.{AllByRecursion}
use Rattle.grub_book.specs.declared.server.TheConstants.{MOMENT_MAX}
use Rattle.grub_book.specs.declared.op.TheConstants.{RUN_MAX}
use Rattle.grub_book.specs.Bandwidth.{IsReservation}
use Rattle.grub_book.specs.Machine.{IsMachine}
use Rattle.grub_plan.specs.declared.line.Act.{Act}
use Rattle.grub_plan.specs.declared.line.Act.TheVariants.{Join, Wake, Block, Leave, Exit, Run, Retune, Read}
use Rattle.grub_plan.specs.Plans.{Line, PlanView}
use Rattle.grub_plan.specs.Names.{is_name}

-- an act of one of so many tasks, with its numbers within their limits
abbrev pub ActFits : ℕ → Act ℕ ℕ → Type 0
ActFits n (Run t dt) = (t < n) × (1 ≤ dt) × (dt ≤ RUN_MAX)
ActFits n (Retune t q p) = (t < n) × IsReservation (record { runtime = q; period = p })
ActFits n (Join t) = t < n
ActFits n (Wake t) = t < n
ActFits n (Block t) = t < n
ActFits n (Leave t) = t < n
ActFits n (Exit t) = t < n
ActFits n Read = Unit {0}

-- no line is before low, or before the one in front of it
abbrev pub ScriptFits : ℕ → ℕ → List Line → Type 0
ScriptFits n low [] = Unit {0}
ScriptFits n low (l ∷ ls) = (low ≤ l.m) × (l.m ≤ MOMENT_MAX) × ActFits n l.act × ScriptFits n l.m ls

-- files, each with a runqueue and a script, and a name for each task
pub record PlanFits (p : PlanView) : Type 0 where
  pub setup : IsMachine p.setup
  pub each : length p.scripts ≡ length p.setup.queues
  pub named : length p.names ≡ length p.setup.tasks
  pub names : AllByRecursion (λ name. is_name name ≡ true) p.names
  pub scripts : AllByRecursion (ScriptFits (length p.setup.tasks) 0) p.scripts
