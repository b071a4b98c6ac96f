-- What the text of a trace tells of the jobs of its tasks.
use Rattle.std.specs.Prelude.{◌≡◌, ℕ, List, None, unwrap_or}
use Rattle.trace_file.specs.Reading.{flaw_at}
use Rattle.trace_lines.specs.Reading.{Progress, halt_at_end, reading}
use Rattle.size_jobs.specs.Lines.{Jobs, jobs_at_first, jobs_step, processors_told, tasks_told}
use Rattle.size_jobs.specs.Taking.{tasks_of}
use Rattle.size_jobs.specs.declared.lines.JobRecord.{JobRecord}

-- a record has these jobs of each task, and what is told beside them
pub record Tells (jobs : Jobs) (told : JobRecord) : Type 0 where
  pub tasks : tasks_of told.tasks ≡ tasks_told jobs
  pub first : told.first ≡ unwrap_or jobs.first 0
  pub last : told.last ≡ jobs.last
  pub processors : told.processors ≡ processors_told jobs
  pub runs : told.has_runs ≡ jobs.has_runs

-- how far a trace is read
abbrev pub jobs_reading : List ℕ → Progress Jobs
jobs_reading text = reading jobs_step text jobs_at_first

-- a record is what this text tells, of which no line has a flaw
pub record IsTold (told : JobRecord) (text : List ℕ) : Type 0 where
  pub whole : flaw_at (halt_at_end (jobs_reading text).halt (jobs_reading text).line (jobs_reading text).rest (jobs_reading text).clock) ≡ None
  pub tells : Tells (jobs_reading text).seen told
