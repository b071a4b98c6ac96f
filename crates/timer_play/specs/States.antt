-- The tasks and runqueues of a record, and what each line makes of them.
use Rattle.std.specs.Prelude.{ℕ, Bool, false, ◌==◌, if◌then◌else◌, List, [], ◌∷◌, ◌++◌, Option, Some, None, slice_get, slice_set}
use Rattle.kernel_rules.specs.declared.charge.ChargedRunqueue.{ChargedRunqueue}
use Rattle.timer_tasks.specs.declared.observation.Observation.{Observation}
use Rattle.timer_tasks.specs.declared.runqueue.Runqueue.{Runqueue}
use Rattle.timer_tasks.specs.declared.server.ServerState.{ServerState}
use Rattle.timer_tasks.specs.declared.server.ServerState.TheVariants.{Stopped}
use Rattle.timer_tasks.specs.declared.task.DeadlineTask.{DeadlineTask}
use Rattle.timer_tasks.specs.Effects.{served_of}
use Rattle.timer_play.specs.declared.machine.TimedMachine.{TimedMachine}
use Rattle.timer_play.specs.declared.machine.Owner.{Owner}
use Rattle.timer_play.specs.declared.machine.Owner.TheVariants as owners
use Rattle.timer_play.specs.declared.terms.PlayTerms.{PlayTerms}
use Rattle.timer_play.specs.Kernels.{limits_at}
use Rattle.timer_play.specs.Places.{at_cpu, runqueues_after, sums_of, taken_after}

-- what is fixed; tasks and runqueues; what is taken from each extra_bw; whose each timer is; what was observed
pub record State : Type 0 where
  pub terms : PlayTerms
  pub tasks : List DeadlineTask
  pub runqueues : List Runqueue
  pub taken : ℕ
  pub owners : List Owner
  pub seen : List Observation

abbrev pub state_of : TimedMachine → State
state_of m = record { terms = m.terms; tasks = m.tasks.items; runqueues = m.runqueues.items; taken = m.taken; owners = m.owners.items; seen = m.observations.items }

-- a task becomes another
unfoldable pub replaced : ℕ → DeadlineTask → State → State
replaced n t m = record m {
  tasks = slice_set m.tasks n t;
  runqueues = runqueues_after (slice_get m.tasks n) t m.runqueues;
  taken = taken_after (slice_get m.tasks n) t m.terms.setup.cpus m.taken;
}

-- a note told the sums
abbrev pub is_told_by : Option Runqueue → Bool
is_told_by (Some r) = r.is_told
is_told_by None = false

abbrev pub is_told_at : List Runqueue → ℕ → Bool
is_told_at rs cpu = is_told_by (slice_get rs cpu)

-- a task was there before the record began: sums that a note tells have it already
unfoldable pub begun_with : ℕ → DeadlineTask → State → State
begun_with n t m = if is_told_at m.runqueues t.cpu then record m { tasks = slice_set m.tasks n t } else replaced n t m

-- the fair server of a CPU comes to another state
unfoldable pub served_in : ServerState → ℕ → State → State
served_in s cpu m = record m { runqueues = at_cpu (λ r. served_of r s m.terms.setup.server_bw) m.runqueues cpu }

abbrev pub server_by : Option Runqueue → ServerState
server_by (Some r) = r.server
server_by None = Stopped

abbrev pub server_at : ℕ → State → ServerState
server_at cpu m = server_by (slice_get m.runqueues cpu)

abbrev pub owner_by : Option Owner → Owner
owner_by (Some o) = o
owner_by None = owners.Nobody

abbrev pub owner_at : ℕ → State → Owner
owner_at timer m = owner_by (slice_get m.owners timer)

abbrev pub owned : ℕ → Owner → State → State
owned timer o m = record m { owners = slice_set m.owners timer o }

abbrev pub noted : Observation → State → State
noted o m = record m { seen = m.seen ++ o ∷ [] }

abbrev pub is_number : Option ℕ → ℕ → Bool
is_number (Some a) b = a == b
is_number None b = false

-- what a charge on a CPU reads
abbrev pub runqueue_for : ℕ → State → ChargedRunqueue
runqueue_for cpu m = record { sums = sums_of (slice_get m.runqueues cpu) m.taken; max_bw = (limits_at m.terms.setup cpu).max_bw; bw_ratio = (limits_at m.terms.setup cpu).bw_ratio }
