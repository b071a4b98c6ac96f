-- The given tasks, line by line. A task is told by its pid: that of its option, or the first that a line shows
-- with its comm; of two options with one pid the later has none. Behind the tasks of options stand those that notes give.
use Rattle.std.specs.Prelude.{ℕ, zero, suc, ◌/◌, Bool, true, false, not, ◌&&◌, ◌==◌, nat_le, nat_eq, List, [], ◌∷◌, ◌++◌, codes, position, Option, Some, None, is_none, if◌then◌else◌}
use Rattle.std.specs.Option.{option_or}
use Rattle.std.specs.List.{starts_with}
use Rattle.std.specs.Str.{bytes_eq}
use Rattle.grub_book.specs.Bandwidth.{Reservation, reservation_fits}
use Rattle.trace_fields.specs.declared.shown.Shown.{Shown}
use Rattle.trace_data.specs.declared.fixed.Fixed.{Fixed}
use Rattle.trace_data.specs.declared.fixed.Fixed.TheVariants.{Woken, Migrated, TimerStarted, TimerCancelled, TimerFired}
use Rattle.trace_data.specs.declared.fixed.TimerFunction.{TimerFunction}
use Rattle.trace_data.specs.declared.fixed.TimerFunction.TheVariants.{ZeroLag}
use Rattle.trace_data.specs.declared.quantities.Parameters.{Parameters}
use Rattle.convert_facts.specs.declared.report.EventReport.{EventReport}
use Rattle.convert_facts.specs.declared.keeper.Trouble.{Trouble}
use Rattle.convert_facts.specs.declared.keeper.Trouble.TheVariants.{Unknown, TooLong, NoTrouble}

-- the kernel threads that have no bandwidth
abbrev pub is_sugov : List ℕ → Bool
is_sugov comm = starts_with nat_eq comm (codes "sugov:")

-- a line shows one of them
abbrev pub is_passed : Option (Shown (List ℕ)) → Bool
is_passed None = false
is_passed (Some shown) = is_sugov shown.comm

-- how a task stops to run
abbrev pub is_zero_lag : TimerFunction → Bool
is_zero_lag ZeroLag = true
is_zero_lag function = false

-- the CPU that an event names beside its line's, or 0
abbrev pub other_cpu : Fixed → ℕ
other_cpu (Woken pid deadline cpu) = cpu
other_cpu (Migrated pid deadline cpu) = cpu
other_cpu event = 0

-- a given task: the comm that is still looked for, its pid once that is known, and the address of its 0-lag timer,
-- once there is one
pub record Task : Type 0 where
  pub sought : Option (List ℕ)
  pub pid : Option ℕ
  pub timer : Option ℕ

abbrev pub is_number : ℕ → Option ℕ → Bool
is_number n None = false
is_number n (Some m) = m == n

abbrev pub is_text : List ℕ → Option (List ℕ) → Bool
is_text text None = false
is_text text (Some other) = bytes_eq other text

abbrev pub has_pid : ℕ → Task → Bool
has_pid n task = is_number n task.pid

abbrev pub seeks : List ℕ → Task → Bool
seeks comm task = is_text comm task.sought

abbrev pub has_timer : ℕ → Task → Bool
has_timer timer task = is_number timer task.timer

abbrev pub index_of : List Task → ℕ → Option ℕ
index_of tasks n = position (has_pid n) tasks

abbrev pub index_of_comm : List Task → List ℕ → Option ℕ
index_of_comm tasks comm = position (seeks comm) tasks

abbrev pub index_of_timer : List Task → ℕ → Option ℕ
index_of_timer tasks timer = position (has_timer timer) tasks

-- a task that a note gives
abbrev pub task_of_pid : ℕ → Task
task_of_pid n = record { sought = None; pid = Some n; timer = None }

-- a list with one element changed
abbrev pub changed_at : {X : Type 0} → ℕ → (X → X) → List X → List X
changed_at i f [] = []
changed_at zero f (x ∷ xs) = f x ∷ xs
changed_at (suc i) f (x ∷ xs) = x ∷ changed_at i f xs

abbrev pub changed_where : {X : Type 0} → Option ℕ → (X → X) → List X → List X
changed_where None f xs = xs
changed_where (Some i) f xs = changed_at i f xs

-- a comm is no longer looked for; its task has this pid, unless another has it
abbrev pub settled_by : Option ℕ → Option ℕ → ℕ → List Task → List Task
settled_by index None n tasks = tasks
settled_by None (Some i) n tasks = changed_at i (λ t. record t { sought = None; pid = Some n }) tasks
settled_by (Some k) (Some i) n tasks = changed_at i (λ t. record t { sought = None }) tasks

-- the tasks after a line that shows one
abbrev pub settled : List Task → Shown (List ℕ) → List Task
settled tasks shown = settled_by (index_of tasks shown.pid) (index_of_comm tasks shown.comm) shown.pid tasks

-- the given task that a line shows
abbrev pub shown_index : List Task → Shown (List ℕ) → Option ℕ
shown_index tasks shown = option_or (index_of tasks shown.pid) (index_of_comm tasks shown.comm)

-- a timer is the 0-lag timer of the task that armed it last
abbrev pub disowned : ℕ → List Task → List Task
disowned timer tasks = changed_where (index_of_timer tasks timer) (λ t. record t { timer = None }) tasks

abbrev pub arming : ℕ → ℕ → List Task → List Task
arming timer n tasks = changed_where (index_of (disowned timer tasks) n) (λ t. record t { timer = Some timer }) (disowned timer tasks)

-- the tasks after a line that shows none, while the task with this pid runs
abbrev pub armed_after : ℕ → Fixed → List Task → List Task
armed_after n (TimerStarted timer function expires) tasks = if is_zero_lag function then arming timer n tasks else tasks
armed_after n event tasks = tasks

abbrev pub shown_after : ℕ → Fixed → Option (Shown (List ℕ)) → List Task → List Task
shown_after n event None tasks = armed_after n event tasks
shown_after n event (Some shown) tasks = if is_sugov shown.comm then tasks else settled tasks shown

-- the tasks after a line that says this
abbrev pub tasks_after : EventReport (List ℕ) → List Task → List Task
tasks_after report tasks = shown_after report.pid report.event report.shown tasks

-- the given task that a line shows, if it is given
abbrev pub index_shown : List Task → Shown (List ℕ) → Option ℕ
index_shown tasks shown = if is_sugov shown.comm then None else shown_index tasks shown

-- the given task whose timer a line tells of
abbrev pub index_timed : ℕ → Fixed → List Task → Option ℕ
index_timed n (TimerStarted timer function expires) tasks = if is_zero_lag function then index_of (disowned timer tasks) n else None
index_timed n (TimerCancelled timer) tasks = index_of_timer tasks timer
index_timed n (TimerFired timer function tick now) tasks = index_of_timer tasks timer
index_timed n event tasks = None

abbrev pub index_by : ℕ → Fixed → Option (Shown (List ℕ)) → List Task → Option ℕ
index_by n event None tasks = index_timed n event tasks
index_by n event (Some shown) tasks = index_shown tasks shown

-- the given task that a line tells of, if it is given
abbrev pub index_told : EventReport (List ℕ) → List Task → Option ℕ
index_told report tasks = index_by report.pid report.event report.shown tasks

-- the fault of a line by the tasks that were given: a wake of another one, and a CPU that is no runqueue's
abbrev pub wake_trouble : Option ℕ → ℕ → ℕ → Trouble
wake_trouble None cpu runqueues = Unknown
wake_trouble (Some task) cpu runqueues = if nat_le runqueues cpu then TooLong else NoTrouble

abbrev pub move_trouble : Option ℕ → ℕ → ℕ → Trouble
move_trouble None cpu runqueues = NoTrouble
move_trouble (Some task) cpu runqueues = if nat_le runqueues cpu then TooLong else NoTrouble

abbrev pub trouble_by : Fixed → Option (Shown (List ℕ)) → Option ℕ → ℕ → Trouble
trouble_by (Woken pid deadline cpu) shown index runqueues =
    if deadline && not (is_passed shown) then wake_trouble index cpu runqueues else NoTrouble
trouble_by (Migrated pid deadline cpu) shown index runqueues = if deadline then move_trouble index cpu runqueues else NoTrouble
trouble_by event shown index runqueues = NoTrouble

abbrev pub trouble_told : EventReport (List ℕ) → Option ℕ → ℕ → Trouble
trouble_told report index runqueues = trouble_by report.event report.shown index runqueues

-- the fault of a line that says this, by the tasks before it
abbrev pub trouble_of : EventReport (List ℕ) → List Task → ℕ → Trouble
trouble_of report tasks runqueues = trouble_told report (index_told report tasks) runqueues

-- something is wrong with the line of an event by the tasks that were given
abbrev pub is_trouble : Trouble → Bool
is_trouble NoTrouble = false
is_trouble other = true

abbrev pub admitted : Reservation → Option Reservation
admitted reservation = if reservation_fits reservation then Some reservation else None

-- the reservation of a note, in whole microseconds, where event files can have it
abbrev pub reservation_noted : Parameters → Option Reservation
reservation_noted parameters = admitted (record { runtime = parameters.dl_runtime / 1000; period = parameters.dl_period / 1000 })

-- what a line comes to: whether something is wrong with it, and what the lines tell with it
pub record Outcome (S : Type 0) : Type 0 where
  pub is_wrong : Bool
  pub told : S

-- a task that a note gives
abbrev pub tasks_given : ℕ → Option Reservation → List Task → List Task
tasks_given n None tasks = tasks
tasks_given n (Some reservation) tasks = tasks ++ task_of_pid n ∷ []

-- a note of a reservation: its task is that of an option, or of an earlier note, or is given by this one
abbrev pub reserving_by : Option ℕ → ℕ → Option Reservation → List Task → Outcome (List Task)
reserving_by (Some index) n reservation tasks = record { is_wrong = false; told = tasks }
reserving_by None n reservation tasks = record { is_wrong = is_none reservation; told = tasks_given n reservation tasks }

abbrev pub reserving : Shown (List ℕ) → Parameters → List Task → Outcome (List Task)
reserving shown parameters tasks =
    if is_sugov shown.comm then record { is_wrong = false; told = tasks } else
    reserving_by (shown_index tasks shown) shown.pid (reservation_noted parameters) (settled tasks shown)
