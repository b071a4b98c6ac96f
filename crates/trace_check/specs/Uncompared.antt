-- Why nothing of a record was compared.
use Rattle.std.specs.Prelude.{ℕ, ◌==◌, Bool, ◌&&◌, if◌then◌else◌, Option, Some, None}
use Rattle.timer_verdict.specs.declared.omitted.LeftOut.{LeftOut}
use Rattle.trace_options.specs.declared.fault.Uncompared.{Uncompared}
use Rattle.trace_options.specs.declared.fault.Uncompared.TheVariants.{NoTask, NoBlock, UnknownSpeed, UnknownSum, Left, NoValue}

abbrev pub is_nothing : LeftOut → Bool
is_nothing l = (l.ends == 0) && (l.unknown == 0) && (l.edges == 0) && (l.gaps == 0)

abbrev pub uncompared_left : LeftOut → Uncompared
uncompared_left left = Left left.ends left.unknown left.edges left.gaps

-- all is left out, from some line on since extra_bw is not known
abbrev pub left_by : Option ℕ → LeftOut → Uncompared
left_by (Some line) left = if left.unknown == 0 then uncompared_left left else UnknownSum line
left_by None left = uncompared_left left

-- by timers: a record of so many tasks of which all that there is was left out, so much of it by its speed
abbrev pub uncompared_of : Option LeftOut → ℕ → ℕ → Option ℕ → Option Uncompared
uncompared_of None tasks slow open_from = None
uncompared_of (Some left) tasks slow open_from =
    if tasks == 0 then Some NoTask else if is_nothing left then Some NoBlock
    else if slow == 0 then Some (left_by open_from left) else Some UnknownSpeed

-- by probes: each value that was compared is equal, and there is none but of laws
abbrev pub unvalued_of : Bool → Bool → Bool → Option Uncompared
unvalued_of agrees has_values shows_task =
    if agrees then (if has_values then None else if shows_task then Some NoValue else Some NoTask) else None
