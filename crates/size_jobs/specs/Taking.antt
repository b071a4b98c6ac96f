-- What a line tells of a task, and of no other.
use Rattle.std.specs.Prelude.{ℕ, ◌==◌, nat_eq, Option, Some, None, List, [], ◌∷◌, ◌++◌, if◌then◌else◌}
use Rattle.std.specs.HashMap.{get, get_by}
use Rattle.std.specs.Option.{option_or}
use Rattle.std.specs.Str.{bytes_eq}
use Rattle.trace_fields.specs.declared.shown.Shown.{Shown}
use Rattle.size_jobs.specs.Watch.{ran_of, stopped_of, woken_of}
use Rattle.size_jobs.specs.declared.watch.Seen.{Seen}
use Rattle.size_jobs.specs.declared.watch.Phase.{Phase}
use Rattle.size_jobs.specs.declared.watch.Phase.TheVariants.{Unseen}
use Rattle.size_jobs.specs.declared.watch.Ended.{Ended}
use Rattle.size_jobs.specs.declared.watch.Ended.TheVariants as ended
use Rattle.size_jobs.specs.declared.task.JobStep.{JobStep}
use Rattle.size_jobs.specs.declared.task.JobStep.TheVariants.{Wakes, Runs, Enters, Stops}
use Rattle.size_jobs.specs.declared.task.JobTask.{JobTask}
use Rattle.size_jobs.specs.declared.tasks.JobTasks.{JobTasks}

-- where a task is behind the line
abbrev pub phase_told : JobStep → Phase → Phase
phase_told (Wakes line at is_new) phase = woken_of phase line at is_new
phase_told (Runs nanos) phase = ran_of phase nanos
phase_told Enters phase = ran_of phase 0
phase_told (Stops at stop class) phase = (stopped_of phase at stop class).0

abbrev pub jobs_in : Ended → List Seen
jobs_in (ended.Job seen) = seen ∷ []
jobs_in ended.Nothing = []
jobs_in (ended.LeftOut why) = []

-- the job that ends at the line, where one does
abbrev pub jobs_told : JobStep → Phase → List Seen
jobs_told (Wakes line at is_new) phase = []
jobs_told (Runs nanos) phase = []
jobs_told Enters phase = []
jobs_told (Stops at stop class) phase = jobs_in (stopped_of phase at stop class).1

abbrev pub phase_in : Option JobTask → Phase
phase_in None = Unseen
phase_in (Some task) = task.phase

abbrev pub jobs_before : Option JobTask → List Seen
jobs_before None = []
jobs_before (Some task) = task.jobs.items

abbrev pub comm_in : Option JobTask → List ℕ
comm_in None = []
comm_in (Some task) = task.comm.items

-- a task: where it is, its comm at the last line that shows it, and its jobs so far
pub record Watched : Type 0 where
  pub phase : Phase
  pub comm : List ℕ
  pub jobs : List Seen

abbrev pub watched_in : Option JobTask → Watched
watched_in task = record { phase = phase_in task; comm = comm_in task; jobs = jobs_before task }

-- all tasks: each by its pid, and the first pid that a line shows with a comm
pub record Tasks : Type 0 where
  pub watched : ℕ → Watched
  pub named : List ℕ → Option ℕ

abbrev pub tasks_of : JobTasks → Tasks
tasks_of tasks = record {
  watched = λ pid. watched_in (get nat_eq tasks.by_pid pid);
  named = λ comm. get_by (λ k. bytes_eq comm k.items) tasks.named;
}

-- no line showed any
abbrev pub none_watched : Tasks
none_watched = record { watched = λ pid. record { phase = Unseen; comm = []; jobs = [] }; named = λ comm. None }

abbrev pub watched_with : List ℕ → JobStep → Watched → Watched
watched_with comm told task = record { phase = phase_told told task.phase; comm = comm; jobs = task.jobs ++ jobs_told told task.phase }

-- a comm is the name of the first pid that is shown with it
abbrev pub named_with : Shown (List ℕ) → (List ℕ → Option ℕ) → List ℕ → Option ℕ
named_with task named = λ comm. option_or (named comm) (if bytes_eq comm task.comm then Some task.pid else None)

-- a line tells of the task that it shows, and of no other
abbrev pub told_to : Shown (List ℕ) → JobStep → Tasks → Tasks
told_to task told tasks = record {
  watched = λ q. if q == task.pid then watched_with task.comm told (tasks.watched task.pid) else tasks.watched q;
  named = named_with task tasks.named;
}
