-- What is printed of the tasks that are asked for: the reservation of each, for its jobs in the text that was read.
use Rattle.std.specs.Prelude.{◌≡◌, ◌⊎◌, ℕ, ◌+◌, ◌*◌, ◌<◌, min, List, [], ◌∷◌, ◌++◌, length, map, codes, decimal, Option, Some, None, unwrap_or}
use Rattle.std.specs.Io.KnownBytes.{Appends}
use Rattle.std.specs.List.{FoldsTo}
use Rattle.std.specs.Option.{option_or}
use Rattle.size_admission.specs.Told.{TellsAll}
use Rattle.size_admission.specs.declared.admission.Proposal.{Proposal}
use Rattle.size_admission.specs.declared.admission.RootDomain.{RootDomain}
use Rattle.size_jobs.specs.Lines.{Jobs, processors_told, tasks_told}
use Rattle.size_jobs.specs.Taking.{Tasks, Watched}
use Rattle.size_jobs.specs.Told.{jobs_reading}
use Rattle.size_jobs.specs.declared.watch.Seen.{Seen}
use Rattle.size_least.specs.Jobs.{late_of}
use Rattle.size_least.specs.Least.{IsLeast}
use Rattle.size_least.specs.declared.job.Job.{Job}
use Rattle.trace_probes.specs.Numerals.{numeral}
use Rattle.size_report.specs.Needs.{proposed_of}
use Rattle.size_report.specs.Options.{Asked, Said}
use Rattle.size_report.specs.Periods.{HasPeriod}

-- the pid of a name: its number, or else the first pid that a line shows with it as its comm
abbrev pub pid_of : List ℕ → Tasks → Option ℕ
pid_of name tasks = option_or (numeral 10 name) (tasks.named name)

-- a job by its release, its work and its due moment
pub record Due : Type 0 where
  pub release : ℕ
  pub work : ℕ
  pub due : ℕ

abbrev pub due_of : Job → Due
due_of job = record { release = job.release; work = job.work; due = job.due }

abbrev pub due_within : ℕ → Seen → Due
due_within within one = record { release = one.release; work = one.work; due = min (one.release + within) 9223372036854775807 }

-- the jobs of a task, each to be done within so many microseconds of its wake
abbrev pub AreJobs : ℕ → List Seen → List Job → Type 0
AreJobs within seen jobs = map due_of jobs ≡ map (due_within within) seen

-- what is printed so far, and what is proposed
pub record Sections : Type 0 where
  pub text : List ℕ
  pub proposals : List Proposal

-- the command that makes a reservation; it takes nanoseconds
abbrev pub command_text : ℕ → ℕ → ℕ → List ℕ
command_text runtime period pid =
    codes "  chrt -d -T " ++ decimal (runtime * 1000) ++ (codes " -D " ++ decimal (period * 1000)) ++ (codes " -P " ++ decimal (period * 1000)) ++ (codes " -p 0 " ++ decimal pid) ++ codes "\n"

-- a section more, whose last line is the command of a reservation, and that reservation among the proposals
pub record Reserves (pid : ℕ) (comm : List ℕ) (runtime period : ℕ) (old new : Sections) : Type 0 where
  pub lead : List ℕ
  pub one : Proposal
  pub text : new.text ≡ old.text ++ lead ++ command_text runtime period pid
  pub proposals : new.proposals ≡ old.proposals ++ one ∷ []
  pub named : one.comm.items ≡ comm
  pub runs : one.runtime ≡ runtime
  pub each : one.period ≡ period

-- a section more, in which nothing is proposed
pub record ProposesNone (old new : Sections) : Type 0 where
  pub lead : List ℕ
  pub text : new.text ≡ old.text ++ lead
  pub proposals : new.proposals ≡ old.proposals

-- the jobs of a task in a period: the least runtime with which no more than so many may be late, and the margin; nothing where the whole
-- period is too little
pub record Sizes (late margin period pid : ℕ) (comm : List ℕ) (jobs : List Job) (old new : Sections) : Type 0 where
  pub is : ((least : ℕ) × IsLeast jobs period late least × Reserves pid comm (proposed_of least margin period) period old new)
      ⊎ ((late < late_of period period jobs) ⊎ (period ≡ 0)) × ProposesNone old new

-- a task with jobs, in a period, each job to be done in the time that is given or else in the period
abbrev pub SizesIn : Said → Asked → ℕ → Watched → ℕ → Sections → Sections → Type 0
SizesIn o asked pid task period old new =
    (jobs : List Job) × AreJobs (unwrap_or asked.within period) task.jobs jobs × Sizes o.late o.margin period pid task.comm jobs old new

-- a task that is asked for: it has a job, and is sized where it has a period
pub record Adds (o : Said) (tasks : Tasks) (old : Sections) (asked : Asked) (new : Sections) : Type 0 where
  pub pid : ℕ
  pub named : pid_of asked.name tasks ≡ Some pid
  pub some : 0 < length (tasks.watched pid).jobs
  pub sized : ((period : ℕ) × HasPeriod asked (tasks.watched pid).jobs (Some period) × SizesIn o asked pid (tasks.watched pid) period old new)
      ⊎ HasPeriod asked (tasks.watched pid).jobs None × ProposesNone old new

-- nothing is printed yet
abbrev pub no_sections : Sections
no_sections = record { text = []; proposals = [] }

-- the root domain by the options, or else by the trace
abbrev pub domain_of : Said → ℕ → RootDomain
domain_of o processors = record { processors = unwrap_or o.cpus processors; most = o.most; fair = o.fair }

-- behind the sections stand all proposals together, where there are some
pub record IsWith (machine : RootDomain) (sections : Sections) (text : List ℕ) : Type 0 where
  pub none : length sections.proposals ≡ 0 → text ≡ sections.text
  pub some : 0 < length sections.proposals → TellsAll sections.proposals machine sections.text text

-- a section for each task that is asked for, in their order
pub record IsAnswer (o : Said) (tasks : Tasks) (processors : ℕ) (text : List ℕ) : Type 0 where
  pub sections : Sections
  pub each : FoldsTo (Adds o tasks) no_sections o.tasks sections
  pub all : IsWith (domain_of o processors) sections text

-- where tasks are asked for, that was printed, by the jobs of these tasks, and nothing else
pub record PrintsAnswer (o : Said) (tasks : Tasks) (processors : ℕ) (old new : Option (List ℕ)) : Type 0 where
  pub text : List ℕ
  pub whole : Appends old new text
  pub answers : 0 < length o.tasks → IsAnswer o tasks processors text

-- by the jobs of this text
abbrev pub PrintsFor : Said → Option (List ℕ) → Option (List ℕ) → List ℕ → Type 0
PrintsFor o old new text =
    let j : Jobs = (jobs_reading text).seen in PrintsAnswer o (tasks_told j) (processors_told j) old new
