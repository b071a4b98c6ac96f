-- What an event does to total_bw of the root domain, and what its task has reserved there before and after (sched-deadline.rst 4.1).
use Rattle.std.specs.Prelude.{ℕ, ◌≡◌, ◌^◌, ◌<◌, Bool, true, false, not, ◌==◌, Option, Some, None, List, [], ◌∷◌, ◌++◌}
use Rattle.trace_data.specs.declared.probe.Admitted.{Admitted}
use Rattle.trace_data.specs.declared.probe.Enqueued.{Enqueued}
use Rattle.trace_data.specs.declared.quantities.Parameters.{Parameters}
use Rattle.kernel_rules.specs.declared.entity.Entity.{Entity}
use Rattle.kernel_rules.specs.declared.sums.SumsChange.{SumsChange}
use Rattle.kernel_rules.specs.declared.charge.ChargeLaw.{ChargeLaw}
use Rattle.kernel_rules.specs.declared.flags.TheConstants.{WAKEUP, QUEUED}
use Rattle.kernel_rules.specs.declared.activity.Block.{Block}
use Rattle.kernel_rules.specs.declared.activity.Block.TheVariants.{Unreserved, ZeroLagTimer, Past}
use Rattle.kernel_rules.specs.Clock.{plus, less, ratio_of, contains_bits}
use Rattle.kernel_rules.specs.Activity.{blocking_of, ends_of}
use Rattle.kernel_rules.specs.declared.admissions.Admission.TheVariants.{Other, Refused, Changed, Back, New}
use Rattle.kernel_rules.specs.declared.delays.Delayed.TheVariants.{Moved, ZeroLag}
use Rattle.kernel_rules.specs.Admit.{admitting_of, admission_of}
use Rattle.kernel_rules.specs.Leave.{leaving_of, outside_of}
use Rattle.kernel_rules.specs.Dequeue.{dequeuing_of, off_of}
use Rattle.kernel_rules.specs.Enqueue.{enqueuing_of}
use Rattle.kernel_rules.specs.Later.{lock_change_of, after_lock_of}
use Rattle.kernel_rules.specs.Timer.{is_gone_of}
use Rattle.kernel_laws.specs.Summing.{counted}

-- what __dl_sub and __dl_add make of total_bw, modulo 2 ^ 64
abbrev pub amount_of : Option ℕ → ℕ
amount_of None = 0
amount_of (Some bw) = bw

abbrev pub total_change : SumsChange → ℕ
total_change c = plus (less 0 (amount_of c.freed)) (amount_of c.taken)

-- the bandwidth of a task: of the reservation that its next enqueue takes, where one waits for it
abbrev pub bandwidth_by : Entity → Option Parameters → ℕ
bandwidth_by e None = e.dl_bw
bandwidth_by e (Some p) = ratio_of p.dl_runtime p.dl_period

abbrev pub bandwidth_of : Entity → ℕ
bandwidth_of e = bandwidth_by e e.new_parameters

-- total_bw moves by what the task has reserved after an event, less what it had before
abbrev pub MovesTotal : Entity → Bool → SumsChange → Entity → Bool → Type 0
MovesTotal before was change after is =
    plus (counted was (bandwidth_of before)) (total_change change) ≡ counted is (bandwidth_of after)

-- a task of which no change waits for an enqueue
pub record IsSettled (e : Entity) : Type 0 where
  pub task : e.is_server ≡ false
  pub settled : e.new_parameters ≡ None
  pub fits : e.dl_bw < 2 ^ 64

-- sched_dl_overflow: what is admitted is reserved from then on. One that comes back before its 0-lag time, and one that changes, gives
-- its old bandwidth back
pub record AdmissionMovesTotal (e : Entity) (l : Admitted) (room : ℕ) : Type 0 where
  pub entered : admission_of e l room ≡ New → MovesTotal e false (admitting_of e l room).change (admitting_of e l room).entity true
  pub came_back : admission_of e l room ≡ Back → IsSettled e → MovesTotal e true (admitting_of e l room).change (admitting_of e l room).entity true
  pub changed : admission_of e l room ≡ Changed → IsSettled e → MovesTotal e true (admitting_of e l room).change (admitting_of e l room).entity true
  pub refused : admission_of e l room ≡ Refused → IsSettled e → MovesTotal e true (admitting_of e l room).change (admitting_of e l room).entity true
  pub other : admission_of e l room ≡ Other → IsSettled e → MovesTotal e true (admitting_of e l room).change (admitting_of e l room).entity true

-- a block ends the reservation of a task that has ended, or has left the class, where its 0-lag time is past; else its timer does
abbrev pub is_reserved_by : Entity → Block → Bool
is_reserved_by e Unreserved = true
is_reserved_by e (ZeroLagTimer _) = true
is_reserved_by e Past = not (ends_of e)

-- dequeue_task_dl with DEQUEUE_SLEEP, also of a task that has ended
abbrev pub SleepMovesTotal : Entity → ℕ → ℕ → ℕ → Type 0
SleepMovesTotal e flags on_rq clock =
    IsSettled e → contains_bits flags WAKEUP ≡ true
    → let d = dequeuing_of e flags on_rq clock in
    MovesTotal e true d.change d.entity (is_reserved_by (off_of e) (blocking_of (off_of e) clock))

-- inactive_task_timer
abbrev pub ZeroLagMovesTotal : Entity → Type 0
ZeroLagMovesTotal e = IsSettled e → MovesTotal e true (lock_change_of e ZeroLag) (after_lock_of e ZeroLag) (not (is_gone_of e))

-- switched_from_dl: a queued task goes like one that blocks, a blocked one leaves it to its 0-lag timer. Where that is past, nothing gives
-- the bandwidth back: total_bw keeps it
pub record LeaveMovesTotal (e : Entity) (on_rq clock : ℕ) : Type 0 where
  pub queued : IsSettled e → (on_rq == QUEUED) ≡ true
      → MovesTotal e true (leaving_of e on_rq clock).change (leaving_of e on_rq clock).entity (is_reserved_by (outside_of e) (blocking_of (outside_of e) clock))
  pub awaited : IsSettled e → (on_rq == QUEUED) ≡ false → e.has_inactive_timer ≡ true
      → MovesTotal e true (leaving_of e on_rq clock).change (leaving_of e on_rq clock).entity true
  pub asleep : (on_rq == QUEUED) ≡ false → e.has_inactive_timer ≡ false → total_change (leaving_of e on_rq clock).change ≡ 0

-- no other event moves it
pub record OthersKeepTotal (law : ChargeLaw) (e : Entity) (l : Enqueued) (flags on_rq clock : ℕ) : Type 0 where
  pub enqueue : total_change (enqueuing_of law e l).change ≡ 0
  pub dequeue : contains_bits flags WAKEUP ≡ false → total_change (dequeuing_of e flags on_rq clock).change ≡ 0
  pub move : total_change (lock_change_of e Moved) ≡ 0

-- a task, and whether the root domain has its bandwidth
pub record Reserving : Type 0 where
  pub entity : Entity
  pub is_reserved : Bool

-- the sum of what is reserved, modulo 2 ^ 64
abbrev pub total_reserved : List Reserving → ℕ
total_reserved [] = 0
total_reserved (r ∷ rs) = plus (counted r.is_reserved (bandwidth_of r.entity)) (total_reserved rs)

-- total_bw is that sum, and stays so at an event that moves it so
abbrev pub TotalStays : List Reserving → Reserving → List Reserving → ℕ → SumsChange → Reserving → Type 0
TotalStays before one behind total change after =
    total ≡ total_reserved (before ++ one ∷ behind) → MovesTotal one.entity one.is_reserved change after.entity after.is_reserved
    → plus total (total_change change) ≡ total_reserved (before ++ after ∷ behind)
