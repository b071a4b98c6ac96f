-- What an event tells of the CPUs: power:cpu_frequency, and cpuhp:cpuhp_enter of the scheduler's steps (kernel/cpu.c).
use Rattle.std.specs.Prelude.{ℕ, Bool, ◌||◌, List, codes, Option, Some, None, is_some, if◌then◌else◌, option_map, option_and_then}
use Rattle.std.specs.Str.{bytes_eq}
use Rattle.text_bytes.specs.Lines.{word_of}
use Rattle.trace_fields.specs.Numbers.{before_end, small_number}
use Rattle.trace_fields.specs.Words.{behind, without_spaces}
use Rattle.trace_lines.specs.declared.change.CpuChange.{CpuChange}
use Rattle.trace_lines.specs.declared.change.CpuChange.TheVariants.{Frequency, Hotplug}

abbrev pub is_frequency : List ℕ → Bool
is_frequency word = bytes_eq word (codes "cpu_frequency:") || bytes_eq word (codes "power:cpu_frequency:")

abbrev pub is_hotplug : List ℕ → Bool
is_hotplug word = bytes_eq word (codes "cpuhp_enter:") || bytes_eq word (codes "cpuhp:cpuhp_enter:")

-- the step of the scheduler: the CPU is not active any more, or is so again
abbrev pub is_activation : List ℕ → Bool
is_activation fields = is_some (before_end (codes "(sched_cpu_deactivate)") fields) || is_some (before_end (codes "(sched_cpu_activate)") fields)

-- cpu: 0003 target:   0 step: 237 (sched_cpu_deactivate)
abbrev pub hotplug_cpu : List ℕ → Option ℕ
hotplug_cpu fields = option_and_then (λ rest. small_number (word_of (without_spaces rest))) (behind (codes "cpu:") fields)

abbrev pub hotplug_by : List ℕ → Option CpuChange
hotplug_by fields = if is_activation fields then option_map (λ cpu. Hotplug cpu) (hotplug_cpu fields) else None

abbrev pub change_of : List ℕ → List ℕ → Option CpuChange
change_of word fields = if is_frequency word then Some Frequency else (if is_hotplug word then hotplug_by fields else None)
