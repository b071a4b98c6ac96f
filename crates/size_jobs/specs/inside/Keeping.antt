-- What a line leaves of all tasks, as they are kept by pid.
use Rattle.std.specs.Prelude.{◌≡◌, ℕ, List, Option, IsSome, ◌++◌}
use Rattle.size_jobs.specs.Taking.{comm_in, jobs_before, jobs_told, phase_in, phase_told}
use Rattle.size_jobs.specs.declared.task.JobStep.{JobStep}
use Rattle.size_jobs.specs.declared.task.JobTask.{JobTask}

-- what is kept of each task by its pid stays, and one is kept for this pid
pub record Keeps (pid : ℕ) (old new : ℕ → Option JobTask) : Type 0 where
  pub shown : IsSome (new pid)
  pub phase : phase_in (new pid) ≡ phase_in (old pid)
  pub jobs : jobs_before (new pid) ≡ jobs_before (old pid)
  pub others : (q : ℕ) → (q ≡ pid → ⊥) → new q ≡ old q

-- the line tells of the task of this pid, whose comm it shows, and what is kept of each other one stays
pub record Takes (pid : ℕ) (name : List ℕ) (told : JobStep) (old new : ℕ → Option JobTask) : Type 0 where
  pub phase : phase_in (new pid) ≡ phase_told told (phase_in (old pid))
  pub comm : comm_in (new pid) ≡ name
  pub jobs : jobs_before (new pid) ≡ jobs_before (old pid) ++ jobs_told told (phase_in (old pid))
  pub others : (q : ℕ) → (q ≡ pid → ⊥) → new q ≡ old q
