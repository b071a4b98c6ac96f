-- Lines of functions that change sums by no rule of a task.
use Rattle.std.specs.Prelude.{ℕ, nat_le, Bool, true, false, ◌&&◌, ◌==◌, if◌then◌else◌, Option, Some, None}
use Rattle.trace_data.specs.declared.probe.Mark.{Mark}
use Rattle.trace_data.specs.declared.probe.Mark.TheVariants.{DomainAttached, BandwidthTaken, BandwidthFreed, LimitHandled, TaskRebuilt, AffinitySet, ServerChanged, CpuDeactivated, CpuActivated}
use Rattle.kernel_rules.specs.declared.flags.TheConstants.{DEADLINE_POLICY}
use Rattle.probe_run.specs.State.{State, actor_at, keep_at}
use Rattle.probe_run.specs.Sums.{opened}
use Rattle.probe_run.specs.Begin.{sap_opened, with_domain, with_active}

abbrev pub opened_if : Bool → State → State
opened_if opens s = if opens then opened s else s

-- where extra_bw is open, it stays so for longer
abbrev pub opened_again : State → Bool → State
opened_again s counts = opened_if (counts && nat_le s.now s.open_until) s

-- dl_server_apply_params
abbrev pub server_unknown : State → Option ℕ → State
server_unknown s None = s
server_unknown s (Some n) =
    let a = actor_at s n in
    keep_at s n (record a { entity = record a.entity { has_inactive_timer = false }; knows_contending = false; knows_budget = false })

abbrev pub marked_by : State → Mark → State
marked_by s (DomainAttached cpu domain) = opened (with_domain s cpu domain)
marked_by s (BandwidthTaken cpu) = opened s
marked_by s (BandwidthFreed cpu) = opened s
marked_by s (LimitHandled is_write) = opened_if is_write s
marked_by s (TaskRebuilt pid policy) = opened_again s (policy == DEADLINE_POLICY)
marked_by s (AffinitySet pid cpu) = opened_again s true
marked_by s (ServerChanged cpu runtime period) = server_unknown (sap_opened s cpu) (s.servers cpu)
marked_by s (CpuDeactivated cpu) = with_active s cpu false
marked_by s (CpuActivated cpu) = with_active s cpu true
