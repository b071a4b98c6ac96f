-- What a task or a fair server has in the sums.
use Rattle.std.specs.Prelude.{ℕ, if◌then◌else◌}
use Rattle.kernel_rules.specs.Clock.{plus, less}
use Rattle.kernel_rules.specs.Sums.{share_of}
use Rattle.timer_tasks.specs.declared.activity.Activity.{Activity}
use Rattle.timer_tasks.specs.declared.activity.Activity.TheVariants.{Inactive, Away}
use Rattle.timer_tasks.specs.declared.effect.BandwidthShare.{BandwidthShare}
use Rattle.timer_tasks.specs.declared.runqueue.Runqueue.{Runqueue}
use Rattle.timer_tasks.specs.declared.server.ServerState.{ServerState}
use Rattle.timer_tasks.specs.declared.task.DeadlineTask.{DeadlineTask}
use Rattle.timer_tasks.specs.Server.{is_stopped_of}

-- a task is in this_bw while it is on the runqueue, in running_bw while it contends or its 0-lag time is to come
abbrev pub effect_by : Activity → ℕ → BandwidthShare
effect_by Inactive bw = record { this_bw = bw; running_bw = 0 }
effect_by Away bw = record { this_bw = 0; running_bw = 0 }
effect_by _ bw = record { this_bw = bw; running_bw = bw }

abbrev pub task_effect_of : DeadlineTask → BandwidthShare
task_effect_of t = effect_by t.activity t.entity.dl_bw

abbrev pub task_share_of : DeadlineTask → ℕ → ℕ
task_share_of t cpus = if t.is_admitted then share_of t.entity.dl_bw cpus else 0

abbrev pub server_effect_of : ServerState → ℕ → BandwidthShare
server_effect_of s bw = record { this_bw = 0; running_bw = if is_stopped_of s then 0 else bw }

abbrev pub without_of : Runqueue → BandwidthShare → Runqueue
without_of r e = record r { sums = record r.sums { this_bw = less r.sums.this_bw e.this_bw; running_bw = less r.sums.running_bw e.running_bw } }

abbrev pub with_of : Runqueue → BandwidthShare → Runqueue
with_of r e = record r { sums = record r.sums { this_bw = plus r.sums.this_bw e.this_bw; running_bw = plus r.sums.running_bw e.running_bw } }

-- a runqueue whose fair server comes to another state
abbrev pub served_of : Runqueue → ServerState → ℕ → Runqueue
served_of r s bw = record (with_of (without_of r (server_effect_of r.server bw)) (server_effect_of s bw)) { server = s }
