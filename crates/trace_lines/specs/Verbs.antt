-- Which event a line is of: the names of tracefs, and those of perf with their group.
use Rattle.std.specs.Prelude.{ℕ, Bool, false, ◌||◌, List, codes, nat_eq, Option, Some, if◌then◌else◌, option_map, option_and_then, unwrap_or}
use Rattle.std.specs.Option.{option_map_or, option_or}
use Rattle.std.specs.List.{starts_with}
use Rattle.std.specs.Str.{bytes_eq}
use Rattle.trace_fields.specs.Numbers.{after, before_end}
use Rattle.trace_probes.specs.Shown.{event_named}
use Rattle.trace_lines.specs.declared.verb.Verb.{Verb}
use Rattle.trace_lines.specs.declared.verb.Verb.TheVariants.{Wake, WakeNew, Migrate, Run, Switch, Start, Cancel, Expire, Call, Return, Probe}

-- an event's name without its group
abbrev pub bare : List ℕ → List ℕ
bare name = unwrap_or (option_or (after (codes "sched:") name) (option_or (after (codes "timer:") name) (option_or (after (codes "syscalls:") name) (after (codes "grub:") name)))) name

abbrev pub probe_verb : List ℕ → Option Verb
probe_verb name = option_map (λ e. Probe e) (event_named name)

abbrev pub policy_verb : List ℕ → Option Verb
policy_verb name =
    if bytes_eq name (codes "sys_enter_sched_setattr") || bytes_eq name (codes "sys_enter_sched_setscheduler") then Some Call else
    (if bytes_eq name (codes "sys_exit_sched_setattr") || bytes_eq name (codes "sys_exit_sched_setscheduler") then Some Return else probe_verb name)

abbrev pub timer_verb : List ℕ → Option Verb
timer_verb name =
    if bytes_eq name (codes "hrtimer_start") then Some Start else
    (if bytes_eq name (codes "hrtimer_cancel") then Some Cancel else
    (if bytes_eq name (codes "hrtimer_expire_entry") then Some Expire else policy_verb name))

abbrev pub verb_named : List ℕ → Option Verb
verb_named name =
    if bytes_eq name (codes "sched_wakeup") then Some Wake else
    (if bytes_eq name (codes "sched_wakeup_new") then Some WakeNew else
    (if bytes_eq name (codes "sched_migrate_task") then Some Migrate else
    (if bytes_eq name (codes "sched_stat_runtime") then Some Run else
    (if bytes_eq name (codes "sched_switch") then Some Switch else timer_verb name))))

-- tracefs writes a call as sys_sched_setattr(pid: 0, ..) and its return as sys_sched_setattr -> 0x0
abbrev pub is_call : List ℕ → Bool
is_call word = starts_with nat_eq word (codes "sys_sched_setattr(") || starts_with nat_eq word (codes "sys_sched_setscheduler(")

abbrev pub is_return : List ℕ → Bool
is_return word = bytes_eq word (codes "sys_sched_setattr") || bytes_eq word (codes "sys_sched_setscheduler")

-- the event that a line's first word behind its moment names
abbrev pub verb_of : List ℕ → Option Verb
verb_of word =
    if is_call word then Some Call else (if is_return word then Some Return else option_and_then (λ name. verb_named (bare name)) (before_end (codes ":") word))

-- a line's first word behind its moment names sched_waking
abbrev pub is_waking : List ℕ → Bool
is_waking word = option_map_or (λ name. bytes_eq (bare name) (codes "sched_waking")) (before_end (codes ":") word) false
