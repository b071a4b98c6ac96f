-- A task of a record is sized by its jobs, and the answer for the tasks of a record is that for the text that tells it.
use Rattle.std.proofs.Common.{ℕ, ◌<◌, inl, inr, List, Option, Some, None, length, map, unwrap_or, sym, subst, take, get_or, ◌+◌}
use Rattle.std.proofs.lemmas.Fn.{FoldsTo-push}
use Rattle.std.proofs.lemmas.List.{map_more}
use Rattle.std.specs.List.{FoldsTo}
use Rattle.std.specs.Io.KnownBytes.{Appends}
use Rattle.text_bytes.specs.Source.{Opener, Reader}
use Rattle.trace_file.specs.Reading.{IsSoOf}
use Rattle.trace_file.proofs.SoLemmas.{so_by}
use Rattle.size_jobs.specs.Lines.{processors_told}
use Rattle.size_jobs.specs.Taking.{Tasks, tasks_of}
use Rattle.size_jobs.specs.Told.{IsTold, jobs_reading}
use Rattle.size_jobs.specs.declared.lines.JobRecord.{JobRecord}
use Rattle.size_least.specs.declared.job.Job.{Job}
use Rattle.size_report.specs.Answers.{Adds, AreJobs, IsAnswer, PrintsAnswer, PrintsFor, ProposesNone, Sections, Sizes, no_sections}
use Rattle.size_report.specs.Options.{Asked, Said, asked_task}
use Rattle.size_report.specs.Periods.{HasPeriod}
use Rattle.size_report.specs.declared.options.AskedTask.{AskedTask}
use Rattle.size_report.specs.declared.sections.FoundTask.{FoundTask}
use Rattle.size_report.specs.inside.Sections.{IsFound}

module _ (o : Said) (tasks : Tasks) (asked : Asked) (found : FoundTask) (is : IsFound asked.name tasks found) (some : 0 < length found.task.now.jobs.items) (old new : Sections) where
  pub none_added : HasPeriod asked found.task.now.jobs.items None → ProposesNone old new → Adds o tasks old asked new
  none_added has none = record {
    pid = found.pid;
    named = is.named;
    some = subst (λ js. 0 < length js) is.jobs some;
    sized = inr (subst (λ js. HasPeriod asked js None) is.jobs has, none);
  }

  pub one_added : (period : ℕ) → HasPeriod asked found.task.now.jobs.items (Some period) → (jobs : List Job) → AreJobs (unwrap_or asked.within period) found.task.now.jobs.items jobs
      → Sizes o.late o.margin period found.pid found.task.now.comm.items jobs old new → Adds o tasks old asked new
  one_added period has jobs are sizes = record {
    pid = found.pid;
    named = is.named;
    some = subst (λ js. 0 < length js) is.jobs some;
    sized = inl (
      period,
      subst (λ js. HasPeriod asked js (Some period)) is.jobs has,
      (
        jobs,
        subst (λ js. AreJobs (unwrap_or asked.within period) js jobs) is.jobs are,
        subst (λ c. Sizes o.late o.margin period found.pid c jobs old new) is.comm sizes,
      ),
    );
  }

-- one task more
pub task_more : (o : Said) (tasks : Tasks) (asked : List AskedTask) (i : ℕ) (d : AskedTask) (old new : Sections) → i < length asked → FoldsTo (Adds o tasks) no_sections (map asked_task (take i asked)) old
    → Adds o tasks old (asked_task (get_or asked i d)) new → FoldsTo (Adds o tasks) no_sections (map asked_task (take (i + 1) asked)) new
task_more o tasks asked i d old new within before adds =
    subst (λ ts. FoldsTo (Adds o tasks) no_sections ts new) (sym (map_more asked_task asked i d within))
    (FoldsTo-push (Adds o tasks) no_sections (map asked_task (take i asked)) old (asked_task (get_or asked i d)) new before adds)

module _ (o : Said) (told : JobRecord) (old new : Option (List ℕ)) (answer : List ℕ) (whole : Appends old new answer)
    (answers : 0 < length o.tasks → IsAnswer o (tasks_of told.tasks) told.processors answer) where
  prints_for : (text : List ℕ) → IsTold told text → PrintsFor o old new text
  prints_for text is =
      let prints : PrintsAnswer o (tasks_of told.tasks) told.processors old new = record { text = answer; whole = whole; answers = answers } in
      subst (λ tasks. PrintsAnswer o tasks (processors_told (jobs_reading text).seen) old new) is.tells.tasks
      (subst (λ n. PrintsAnswer o (tasks_of told.tasks) n old new) is.tells.processors prints)

  module _ {O N D : Type 0} (opens : Opener O D) (opener : O) (g : Reader N D) (read : N) (name : List ℕ) where
    pub printed_for : IsSoOf opens opener g read name (IsTold told) → IsSoOf opens opener g read name (PrintsFor o old new)
    printed_for so = so_by opens opener g read (IsTold told) (PrintsFor o old new) name prints_for so
