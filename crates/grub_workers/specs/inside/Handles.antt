-- The promises of the workers, and what their joined handles give.
use Rattle.std.specs.Prelude.{◌≡◌, ℕ, ◌<◌, ◌≤◌, List, [], length, slice_index_or, vec_capacity, Result}
use Rattle.std.specs.declared.alloc.AllocError.{AllocError}
use Rattle.std.specs.declared.vec.Vec.{Vec}
use Rattle.std.specs.declared.thread.PromisedHandle.{PromisedHandle}
use Rattle.grub_table.specs.Calls.{terms}
use Rattle.grub_table.specs.declared.pass.Pass.{Pass}
use Rattle.grub_table.specs.declared.shared.Shared.{Shared}
use Rattle.grub_plan.specs.declared.entry.Report.{Report}
use Rattle.grub_plan.specs.Plans.{Line, PlanView, script_at}
use Rattle.grub_workers.specs.declared.work.WorkOf.{WorkOf}
use Rattle.grub_workers.specs.declared.work.Worked.{Worked}
use Rattle.grub_workers.specs.inside.Working.{IsWorked}

abbrev pub Handle : Type 0
Handle = PromisedHandle (Result Worked AllocError) WorkOf

-- the promise is that of worker i
pub record IsOf (s : Shared) (tries : ℕ) (scripts : List (List Line)) (i : ℕ) (p : WorkOf) : Type 0 where
  pub table : p.table.now ≡ s
  pub tries_are : p.tries ≡ tries
  pub number : p.number ≡ i
  pub script : p.script.now ≡ script_at scripts i

-- the table has a runqueue for each file, and its tasks
pub record AllFit (s : Shared) (plan : PlanView) : Type 0 where
  pub setup : (terms s).setup ≡ plan.setup
  pub queues : length plan.scripts ≡ length plan.setup.queues

-- two empty lists that take n without growing
pub record HasRoom {Z : Type 0} (n : ℕ) (passes : Vec Pass Z) (reports : Vec Report Z) : Type 0 where
  pub no_pass : passes.items ≡ []
  pub no_report : reports.items ≡ []
  pub for_passes : n ≤ vec_capacity passes
  pub for_reports : n ≤ vec_capacity reports

-- each file was answered by its own worker
pub record AllWorked (s : Shared) (tries : ℕ) (scripts : List (List Line)) (passes : List Pass) (reports : List Report) : Type 0 where
  pub passes_len : length passes ≡ length scripts
  pub reports_len : length reports ≡ length scripts
  pub each : (i : ℕ) (p : Pass) (r : Report) → i < length scripts → IsWorked s tries i (script_at scripts i) (slice_index_or passes i p) (slice_index_or reports i r).entries.items
