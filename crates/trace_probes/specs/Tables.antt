-- What each probe shows, by the values of its fields.
use Rattle.std.specs.Prelude.{ℕ, ℤ, pos, Bool, false, nat_lt, Option, Some, None, ◌-◌, ◌^◌, List, get_or, min, replicate}
use Rattle.trace_probes.specs.Fields.{place_of}
use Rattle.trace_probes.specs.declared.field.Field.{Field}
use Rattle.trace_probes.specs.declared.field.Field.TheVariants.{Active, BwRatio, Clock, ClockTask, Cpu, CpuScale, Current, Deadline, Delayed, DlDeadline, DlPeriod, DlRuntime, DomainBw, DonorDeadline, DonorPeriod, DonorRuntime, Earliest, Entity, ExecStart, ExtraBw, FairTasks, Flags, FrequencyScale, Function, IsServer, NonContending, NormalPrio, OnRq, Pid, PolicyBefore, PolicyWanted, RunningBw, Runtime, SchedFlags, ServedBy, Server, State, ThisBw, Throttled, Timer, TotalBw, Yielded}
use Rattle.trace_probes.specs.declared.field.TheConstants.{FIELDS}
use Rattle.trace_probes.specs.declared.value.FieldValue.{FieldValue}
use Rattle.trace_probes.specs.declared.value.FieldValue.TheVariants as value
use Rattle.trace_data.specs.declared.fixed.TimerFunction.{TimerFunction}
use Rattle.trace_data.specs.declared.fixed.TimerFunction.TheVariants.{Other}
use Rattle.trace_data.specs.declared.probe.Admitted.{Admitted}
use Rattle.trace_data.specs.declared.probe.Armed.{Armed}
use Rattle.trace_data.specs.declared.quantities.Budget.{Budget}
use Rattle.trace_data.specs.declared.probe.CpuSpeed.{CpuSpeed}
use Rattle.trace_data.specs.declared.probe.Dequeued.{Dequeued}
use Rattle.trace_data.specs.declared.quantities.Donor.{Donor}
use Rattle.trace_data.specs.declared.probe.Enqueued.{Enqueued}
use Rattle.trace_data.specs.declared.probe.Expiry.{Expiry}
use Rattle.trace_data.specs.declared.probe.IdleCharge.{IdleCharge}
use Rattle.trace_data.specs.declared.probe.LeftClass.{LeftClass}
use Rattle.trace_data.specs.declared.probe.Migrating.{Migrating}
use Rattle.trace_data.specs.declared.quantities.Parameters.{Parameters}
use Rattle.trace_data.specs.declared.probe.Picked.{Picked}
use Rattle.trace_data.specs.declared.probe.Ran.{Ran}
use Rattle.trace_data.specs.declared.probe.ServerIdled.{ServerIdled}
use Rattle.trace_data.specs.declared.probe.ServerStarted.{ServerStarted}
use Rattle.trace_data.specs.declared.probe.ServerStopped.{ServerStopped}
use Rattle.trace_data.specs.declared.quantities.Sums.{Sums}
use Rattle.trace_data.specs.declared.probe.Updated.{Updated}

-- no value yet
abbrev pub no_values : List FieldValue
no_values = replicate FIELDS value.Absent

abbrev pub unsigned_in : FieldValue → ℕ
unsigned_in (value.Unsigned n) = n
unsigned_in v = 0

-- the number of an optional field
abbrev pub shown_in : FieldValue → Option ℕ
shown_in (value.Unsigned n) = Some n
shown_in v = None

abbrev pub signed_in : FieldValue → ℤ
signed_in (value.Signed z) = z
signed_in v = pos 0

abbrev pub flag_in : FieldValue → Bool
flag_in (value.Flag b) = b
flag_in v = false

abbrev pub function_in : FieldValue → TimerFunction
function_in (value.Function f) = f
function_in v = Other

abbrev pub value_at : Field → List FieldValue → FieldValue
value_at field values = get_or values (place_of field) value.Absent

abbrev pub unsigned_at : Field → List FieldValue → ℕ
unsigned_at field values = unsigned_in (value_at field values)

abbrev pub shown_at : Field → List FieldValue → Option ℕ
shown_at field values = shown_in (value_at field values)

abbrev pub signed_at : Field → List FieldValue → ℤ
signed_at field values = signed_in (value_at field values)

abbrev pub flag_at : Field → List FieldValue → Bool
flag_at field values = flag_in (value_at field values)

abbrev pub function_at : Field → List FieldValue → TimerFunction
function_at field values = function_in (value_at field values)

-- a CPU, or the greatest of 32 bits
abbrev pub cpu_at : List FieldValue → ℕ
cpu_at values = min (unsigned_at Cpu values) (2 ^ 32 - 1)

-- a reservation
abbrev pub parameters : List FieldValue → Parameters
parameters v = record {
  dl_runtime = unsigned_at DlRuntime v;
  dl_deadline = unsigned_at DlDeadline v;
  dl_period = unsigned_at DlPeriod v;
  flags = unsigned_at SchedFlags v;
}

-- what is left of a budget
abbrev pub budget : List FieldValue → Budget
budget v = record {
  runtime = signed_at Runtime v;
  deadline = unsigned_at Deadline v;
  is_throttled = flag_at Throttled v;
  is_yielded = flag_at Yielded v;
}

-- the reservation by which a task is served
abbrev pub donor : List FieldValue → Donor
donor v = record {
  dl_runtime = unsigned_at DonorRuntime v;
  dl_deadline = unsigned_at DonorDeadline v;
  dl_period = unsigned_at DonorPeriod v;
}

-- the sums of a runqueue
abbrev pub sums : List FieldValue → Sums
sums v = record {
  this_bw = unsigned_at ThisBw v;
  running_bw = unsigned_at RunningBw v;
  extra_bw = unsigned_at ExtraBw v;
}

-- enqueue_task_dl
abbrev pub enqueued : List FieldValue → Enqueued
enqueued v = record {
  pid = unsigned_at Pid v;
  cpu = cpu_at v;
  flags = unsigned_at Flags v;
  clock = unsigned_at Clock v;
  budget = budget v;
  is_non_contending = flag_at NonContending v;
  parameters = parameters v;
  on_rq = unsigned_at OnRq v;
  normal_prio = signed_at NormalPrio v;
  entity = unsigned_at Entity v;
  served_by = unsigned_at ServedBy v;
  donor = donor v;
  sums = sums v;
}

-- how fast a CPU runs
abbrev pub speed : List FieldValue → CpuSpeed
speed v = record {
  frequency = shown_at FrequencyScale v;
  capacity = shown_at CpuScale v;
}

-- update_curr_dl_se, or update_curr_dl
abbrev pub updated_by : List FieldValue → Ran → Updated
updated_by v span = record {
  is_server = nat_lt 0 (unsigned_at IsServer v);
  pid = unsigned_at Pid v;
  cpu = cpu_at v;
  clock = unsigned_at Clock v;
  ran = span;
  budget = budget v;
  sums = sums v;
  bw_ratio = unsigned_at BwRatio v;
  speed = speed v;
}

-- dequeue_task_dl
abbrev pub dequeued : List FieldValue → Dequeued
dequeued v = record {
  pid = unsigned_at Pid v;
  cpu = cpu_at v;
  flags = unsigned_at Flags v;
  clock = unsigned_at Clock v;
  budget = budget v;
  is_non_contending = flag_at NonContending v;
  on_rq = unsigned_at OnRq v;
  state = unsigned_at State v;
  current = unsigned_at Current v;
  sums = sums v;
}

-- migrate_task_rq_dl
abbrev pub migrating : List FieldValue → Migrating
migrating v = record {
  pid = unsigned_at Pid v;
  state = unsigned_at State v;
}

-- switched_from_dl
abbrev pub left_class : List FieldValue → LeftClass
left_class v = record {
  pid = unsigned_at Pid v;
  cpu = cpu_at v;
  clock = unsigned_at Clock v;
  runtime = signed_at Runtime v;
  deadline = unsigned_at Deadline v;
  is_non_contending = flag_at NonContending v;
  on_rq = unsigned_at OnRq v;
  sums = sums v;
}

-- sched_dl_overflow; is_delayed is false where the kernel has no such field
abbrev pub admitted : List FieldValue → Admitted
admitted v = record {
  pid = unsigned_at Pid v;
  cpu = cpu_at v;
  policy_before = unsigned_at PolicyBefore v;
  policy = unsigned_at PolicyWanted v;
  parameters = parameters v;
  on_rq = unsigned_at OnRq v;
  is_delayed = flag_at Delayed v;
  total_bw = unsigned_at TotalBw v;
  limit = unsigned_at DomainBw v;
}

-- hrtimer_start_range_ns
abbrev pub armed_by : List FieldValue → Expiry → Armed
armed_by v moment = record {
  timer = unsigned_at Timer v;
  function = function_at Function v;
  expiry = moment;
}

-- enqueue_dl_entity of a fair server
abbrev pub server_started : List FieldValue → ServerStarted
server_started v = record {
  is_server = flag_at Server v;
  cpu = cpu_at v;
  flags = unsigned_at Flags v;
  clock = unsigned_at Clock v;
  dl_runtime = unsigned_at DlRuntime v;
  dl_period = unsigned_at DlPeriod v;
  is_non_contending = flag_at NonContending v;
  sums = sums v;
}

-- pick_task_dl
abbrev pub picked : List FieldValue → Picked
picked v = record {
  cpu = cpu_at v;
  clock = unsigned_at Clock v;
  fair_tasks = unsigned_at FairTasks v;
  earliest = unsigned_at Earliest v;
  is_active = flag_at Active v;
  is_throttled = flag_at Throttled v;
  runtime = signed_at Runtime v;
  deadline = unsigned_at Deadline v;
  dl_runtime = unsigned_at DlRuntime v;
  dl_period = unsigned_at DlPeriod v;
  is_non_contending = flag_at NonContending v;
  sums = sums v;
}

-- dl_server_stop
abbrev pub server_stopped : List FieldValue → ServerStopped
server_stopped v = record {
  cpu = cpu_at v;
  clock = unsigned_at Clock v;
  is_active = flag_at Active v;
  runtime = signed_at Runtime v;
  deadline = unsigned_at Deadline v;
  dl_runtime = unsigned_at DlRuntime v;
  dl_period = unsigned_at DlPeriod v;
  is_non_contending = flag_at NonContending v;
  sums = sums v;
}

-- dl_server_update_idle_time, or put_prev_task_idle
abbrev pub server_idled : List FieldValue → IdleCharge → ServerIdled
server_idled v by = record {
  charge = by;
  cpu = cpu_at v;
  clock = unsigned_at Clock v;
  now = unsigned_at ClockTask v;
  start = unsigned_at ExecStart v;
  runtime = signed_at Runtime v;
  deadline = unsigned_at Deadline v;
  is_throttled = flag_at Throttled v;
  is_active = flag_at Active v;
}
