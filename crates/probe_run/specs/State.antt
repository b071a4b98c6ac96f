-- What the rules have come to at a point of a record, and what of the calls that have begun is not done yet.
use Rattle.std.specs.Prelude.{ℕ, ◌+◌, ◌%◌, ◌^◌, ℤ, nat_eq, nat_lt, Bool, true, false, ◌&&◌, ◌==◌, if◌then◌else◌, cond, Option, Some, None, unwrap_or, List, [], ◌∷◌, ◌++◌, length, position, slice_get, slice_set}
use Rattle.probe_findings.specs.declared.words.Whose.{Whose}
use Rattle.probe_findings.specs.declared.words.Whose.TheVariants.{Task, Server}
use Rattle.probe_findings.specs.declared.words.Deviation.{Deviation}
use Rattle.trace_data.specs.declared.quantities.Parameters.{Parameters}
use Rattle.kernel_rules.specs.Reservation.{fresh_of}
use Rattle.probe_run.specs.declared.actor.Actor.{Actor}
use Rattle.probe_run.specs.declared.rules.Processor.{Processor}
use Rattle.probe_run.specs.declared.sums.Runqueue.{Runqueue}
use Rattle.probe_run.specs.declared.sums.RootDomain.{RootDomain}
use Rattle.probe_run.specs.declared.waiting.UnlockedSum.{UnlockedSum}
use Rattle.probe_run.specs.declared.waiting.UnlockedSum.TheVariants.{ExtraBw, TotalBw}
use Rattle.probe_run.specs.declared.waiting.PendingEffect.{PendingEffect}
use Rattle.probe_run.specs.declared.waiting.Claim.{Claim}
use Rattle.probe_run.specs.declared.waiting.OpenDequeue.{OpenDequeue}
use Rattle.probe_run.specs.declared.waiting.TimerToArm.{TimerToArm}
use Rattle.probe_run.specs.declared.waiting.OlderDequeue.{OlderDequeue}

-- entities, by numbers; whose number a pid, the server of a CPU, the address of a timer has; sums; CPUs; effects that are pending, sums that
-- were read, dequeues that wait, those whose rest came before a charge, timers to arm, CPUs that may arm an older task's timer; CPUs that
-- wrote a line but of charges and timers; the moment of the last line; till when extra_bw and total_bw are open, and all sums as the record
-- begins amid tasks; the first value that differed
pub record State : Type 0 where
  pub actors : List Actor
  pub tasks : ℕ → Option ℕ
  pub servers : ℕ → Option ℕ
  pub timers : ℕ → Option ℕ
  pub runqueues : List Runqueue
  pub domains : List RootDomain
  pub processors : List Processor
  pub pending : List PendingEffect
  pub claims : List Claim
  pub open_dequeues : List OpenDequeue
  pub early : List OpenDequeue
  pub timers_to_arm : List TimerToArm
  pub older_dequeues : List OlderDequeue
  pub wrote : List ℕ
  pub now : ℕ
  pub open_until : ℕ
  pub amid_until : ℕ
  pub first : Option Deviation

-- a list with this in a place, or at its end
abbrev pub put_at : {A : Type 0} → List A → Option ℕ → A → List A
put_at xs None x = xs ++ x ∷ []
put_at xs (Some i) x = slice_set xs i x

abbrev pub found_at : {A : Type 0} → List A → Option ℕ → Option A
found_at xs None = None
found_at xs (Some i) = slice_get xs i

abbrev pub set_of : {A : Type 0} → (ℕ → Option A) → ℕ → A → ℕ → Option A
set_of f k a = λ q. cond (nat_eq k q) (Some a) (f q)

-- entities
abbrev pub unseen_task : ℕ → ℕ → Actor
unseen_task pid life = record {
  whose = Task pid life;
  entity = fresh_of false;
  knows_budget = false;
  knows_parameters = false;
  knows_contending = false;
  cpu = 0;
  is_stopped = false;
  address = None;
  inactive_timer = None;
  deadline_timer = None;
}

abbrev pub unseen_server : ℕ → Actor
unseen_server cpu = record {
  whose = Server cpu;
  entity = fresh_of true;
  knows_budget = false;
  knows_parameters = true;
  knows_contending = false;
  cpu = cpu;
  is_stopped = false;
  address = None;
  inactive_timer = None;
  deadline_timer = None;
}

abbrev pub server_parameters_of : ℕ → ℕ → Parameters
server_parameters_of runtime period = record { dl_runtime = runtime; dl_deadline = period; dl_period = period; flags = 0 }

abbrev pub actor_at : State → ℕ → Actor
actor_at s n = unwrap_or (slice_get s.actors n) (unseen_task 0 0)

abbrev pub keep_at : State → ℕ → Actor → State
keep_at s n a = record s { actors = if nat_lt n (length s.actors) then slice_set s.actors n a else s.actors }

-- the number of a task, which it has from its first line on
abbrev pub number_or : Option ℕ → ℕ → ℕ
number_or None next = next
number_or (Some n) next = n

abbrev pub task_number : State → ℕ → ℕ
task_number s pid = number_or (s.tasks pid) (length s.actors)

abbrev pub with_task_by : State → ℕ → Option ℕ → State
with_task_by s pid (Some n) = s
with_task_by s pid None = record s { actors = s.actors ++ unseen_task pid 0 ∷ []; tasks = set_of s.tasks pid (length s.actors) }

abbrev pub with_task : State → ℕ → State
with_task s pid = with_task_by s pid (s.tasks pid)

-- another task of a pid whose task has ended
abbrev pub next_life : Whose → ℕ
next_life (Task pid life) = (life + 1) % 2 ^ 32
next_life (Server cpu) = 0

abbrev pub with_new_task : State → ℕ → Whose → State
with_new_task s pid ended = record s {
  actors = s.actors ++ unseen_task pid (next_life ended) ∷ [];
  tasks = set_of s.tasks pid (length s.actors);
}

abbrev pub server_number : State → ℕ → ℕ
server_number s cpu = number_or (s.servers cpu) (length s.actors)

abbrev pub with_server_by : State → ℕ → Option ℕ → State
with_server_by s cpu (Some n) = s
with_server_by s cpu None = record s { actors = s.actors ++ unseen_server cpu ∷ []; servers = set_of s.servers cpu (length s.actors) }

abbrev pub with_server : State → ℕ → State
with_server s cpu = with_server_by s cpu (s.servers cpu)

-- sums
abbrev pub same_sum : UnlockedSum → UnlockedSum → Bool
same_sum (ExtraBw c) (ExtraBw d) = c == d
same_sum (ExtraBw c) (TotalBw d) = false
same_sum (TotalBw c) (ExtraBw d) = false
same_sum (TotalBw c) (TotalBw d) = c == d
