-- Sections and a task, as the code holds them.
use Rattle.std.specs.Prelude.{◌≡◌, ℕ, List, Some}
use Rattle.size_jobs.specs.Taking.{Tasks}
use Rattle.size_report.specs.Answers.{Sections, pid_of}
use Rattle.size_report.specs.declared.sections.FoundTask.{FoundTask}
use Rattle.size_report.specs.declared.sections.SizeSections.{SizeSections}

abbrev pub sections_in : SizeSections → Sections
sections_in sections = record { text = sections.text.items; proposals = sections.proposals.items }

-- a task of a record is that of a name, and has a job
pub record IsFound (name : List ℕ) (tasks : Tasks) (found : FoundTask) : Type 0 where
  pub named : pid_of name tasks ≡ Some found.pid
  pub comm : found.task.now.comm.items ≡ (tasks.watched found.pid).comm
  pub jobs : found.task.now.jobs.items ≡ (tasks.watched found.pid).jobs
