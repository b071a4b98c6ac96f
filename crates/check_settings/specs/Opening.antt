-- When a line shows that extra_bw changes by no rule of a task whose reservation is known: from there on it is not known.
use Rattle.std.specs.Prelude.{ℕ, Bool, true, false, nat_eq, if◌then◌else◌, List, codes, Option, Some, None}
use Rattle.std.specs.List.{starts_with}
use Rattle.trace_data.specs.declared.fixed.Fixed.TheVariants as fixed
use Rattle.trace_data.specs.declared.line.RecordLine.{RecordLine}
use Rattle.trace_data.specs.declared.line.RecordLine.TheVariants as line
use Rattle.trace_data.specs.declared.line.Said.TheVariants as said
use Rattle.trace_data.specs.declared.probe.Mark.{Mark}
use Rattle.trace_data.specs.declared.probe.Mark.TheVariants as mark
use Rattle.trace_data.specs.declared.probe.Probe.TheVariants as probe
use Rattle.trace_lines.specs.declared.change.CpuChange.{CpuChange}
use Rattle.trace_lines.specs.declared.change.CpuChange.TheVariants as change
use Rattle.check_settings.specs.Heads.{opened_by}
use Rattle.check_settings.specs.declared.head.OpeningSign.{OpeningSign}
use Rattle.check_settings.specs.declared.head.OpeningSign.TheVariants as sign
use Rattle.check_settings.specs.declared.head.SumsOpened.{SumsOpened}

-- rq_attach_root, dl_bw_alloc, dl_bw_free, sched_rt_handler, dl_server_apply_params, sched_cpu_deactivate, sched_cpu_activate;
-- a limit that is read, a task that is counted again and a set of CPUs alone change nothing on a healthy kernel
abbrev pub opens_by : Mark → Bool
opens_by (mark.LimitHandled is_write) = is_write
opens_by (mark.TaskRebuilt pid policy) = false
opens_by (mark.AffinitySet pid cpu) = false
opens_by other = true

abbrev pub mark_opens : Mark → Option OpeningSign
mark_opens m = if opens_by m then Some sign.Mark else None

-- cpuhp_threads of kernel/cpu.c: the thread of CPU hotplug wakes on its CPU, which goes or comes
abbrev pub hotplug_opens : List ℕ → ℕ → Option OpeningSign
hotplug_opens comm cpu = if starts_with nat_eq comm (codes "cpuhp/") then Some (sign.Hotplug cpu) else None

-- a line that shows a task of this comm
abbrev pub opening_by : RecordLine → List ℕ → Option OpeningSign
opening_by (line.Event at grain cpu pid (said.Probe (probe.Mark m))) comm = mark_opens m
opening_by (line.Event at grain cpu pid (said.Fixed (fixed.Woken woken deadline on))) comm = hotplug_opens comm on
opening_by other comm = None

-- an event of CPU hotplug
abbrev pub change_opens : Option CpuChange → Option OpeningSign
change_opens (Some (change.Hotplug cpu)) = Some (sign.Hotplug cpu)
change_opens other = None

abbrev pub changes_frequency : Option CpuChange → Bool
changes_frequency (Some change.Frequency) = true
changes_frequency other = false

-- a line of a CPU that the head lacks
abbrev pub newcomer_by : Bool → ℕ → Option OpeningSign
newcomer_by lacks cpu = if lacks then Some (sign.NewCpu cpu) else None

-- the first such line counts
abbrev pub opened_with : Option OpeningSign → ℕ → Option SumsOpened → Option SumsOpened
opened_with (Some sign) number before = opened_by before number sign
opened_with None number before = before
