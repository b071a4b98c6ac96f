-- What is fixed for a kernel: its equation of charges, its limits (init_dl_rq_bw_ratio), and how its fair servers stop.
use Rattle.std.specs.Prelude.{ℕ, ◌-◌, pos, int_lt, ◌/◌, ◌^◌, Bool, true, false, ◌&&◌, ◌==◌, min, if◌then◌else◌, Result, Ok, Err, length, fold, unwrap_or}
use Rattle.std.specs.Int.{w64, cast_unsigned}
use Rattle.trace_data.specs.declared.note.Kernel.{Kernel}
use Rattle.trace_data.specs.declared.note.Limit.{Limit}
use Rattle.trace_data.specs.declared.note.Limit.TheVariants.{MaxBw, Runtime}
use Rattle.kernel_rules.specs.Clock.{less, ratio_of, times}
use Rattle.kernel_rules.specs.Sums.{share_of}
use Rattle.kernel_rules.specs.declared.charge.ChargeLaw.{ChargeLaw}
use Rattle.kernel_rules.specs.declared.charge.ChargeLaw.TheVariants.{Documentation}
use Rattle.kernel_rules.specs.Releases.{charge_law, release_of, wants_sums}
use Rattle.timer_play.specs.declared.setup.FairServer.{FairServer}
use Rattle.timer_play.specs.declared.setup.FairServer.TheVariants as fair
use Rattle.timer_play.specs.declared.setup.Limits.{Limits}
use Rattle.timer_play.specs.declared.setup.NoSums.{NoSums}
use Rattle.timer_play.specs.declared.setup.KernelSettings.{KernelSettings}
use Rattle.timer_play.specs.declared.setup.RecordStart.{RecordStart}
use Rattle.kernel_rules.specs.declared.table.Servers.{Servers}
use Rattle.kernel_rules.specs.declared.table.Servers.TheVariants.{Absent, StopWithTimer, StopAtPick}
use Rattle.timer_play.specs.declared.setup.RecordSetup.{RecordSetup}

-- sched_rt_runtime_us is -1
abbrev pub no_limits : Limits
no_limits = record { max_bw = 2 ^ 20; bw_ratio = 256 }

abbrev pub inverse_of : ℕ → ℕ
inverse_of bw = if bw == 0 then 0 else 2 ^ 40 / bw

abbrev pub limits_by : Limit → Limits
limits_by (MaxBw bw) = if bw == 2 ^ 64 - 1 then no_limits else record { max_bw = bw; bw_ratio = inverse_of bw / 2 ^ 12 }
limits_by (Runtime runtime period) =
    if int_lt runtime (pos 0) then no_limits
    else record { max_bw = ratio_of (cast_unsigned w64 runtime) period; bw_ratio = ratio_of period (cast_unsigned w64 runtime) / 2 ^ 12 }

abbrev pub is_absent : Servers → Bool
is_absent Absent = true
is_absent _ = false

-- fair_server_init: 50 ms in 1 s
abbrev pub server_bw_by : FairServer → Servers → ℕ
server_bw_by fair.None s = 0
server_bw_by (fair.Reserves runtime period) s = ratio_of runtime period
server_bw_by (fair.Bandwidth bw) s = bw
server_bw_by fair.Default s = if is_absent s then 0 else ratio_of 50000000 1000000000

-- the root domain's first processor has other limits before 6.5
abbrev pub limits_at : RecordSetup → ℕ → Limits
limits_at s cpu = if cpu == s.first_cpu then s.first else s.others

-- extra_bw where only the fair servers were admitted
abbrev pub first_extra_of : RecordSetup → ℕ → ℕ
first_extra_of s cpu = less (limits_at s cpu).max_bw (times s.cpus (share_of s.server_bw s.cpus))

-- __pick_task_dl: a fair server stops when it is picked and has no task
abbrev pub picks_of : Servers → Bool
picks_of StopAtPick = true
picks_of _ = false

-- dl_server_stop: with its last fair task
abbrev pub stops_with_timer_of : Servers → Bool
stops_with_timer_of StopWithTimer = true
stops_with_timer_of _ = false

-- where nothing is said: a current kernel, and 950000 us in 1000000 us
abbrev pub current : Kernel
current = record { major = 6; minor = 18; patch = 0 }

abbrev pub default_limit : Limit
default_limit = Runtime (pos 950000) 1000000

-- before 6.5 a limit that is written after the boot reaches the first processor only
abbrev pub other_limits_by : Kernel → Limits → Limits
other_limits_by k first = if (release_of k).has_max_bw then first else limits_by default_limit

abbrev pub law_for : KernelSettings → Kernel → ChargeLaw
law_for o k = if o.is_by_documentation then Documentation else charge_law k

abbrev pub fixed_of : KernelSettings → RecordStart → Kernel → RecordSetup
fixed_of o x k = record {
  law = law_for o k;
  servers = (release_of k).servers;
  server_bw = server_bw_by o.fair_server (release_of k).servers;
  first = limits_by (unwrap_or o.limit default_limit);
  others = other_limits_by k (limits_by (unwrap_or o.limit default_limit));
  first_cpu = fold min (2 ^ 32 - 1) x.domain.items;
  cpus = length x.domain.items;
}

abbrev pub setup_by : KernelSettings → RecordStart → Result RecordSetup NoSums
setup_by o x =
    let k = unwrap_or o.kernel current in
    if wants_sums (release_of k).servers && length x.sums.items == 0 then Err (record { kernel = k }) else Ok (fixed_of o x k)
