-- Which lines are kept beside those of timers and tasks: those that bear on the kernel's fair servers.
use Rattle.std.specs.Prelude.{Bool, ◌&&◌, ◌||◌, not, Option, unwrap_or}
use Rattle.kernel_rules.specs.Releases.{release_of, wants_sums}
use Rattle.kernel_rules.specs.declared.table.Servers.{Servers}
use Rattle.trace_data.specs.declared.note.Kernel.{Kernel}
use Rattle.timer_play.specs.Kernels.{current, picks_of, stops_with_timer_of}
use Rattle.check_settings.specs.declared.wanted.WantedLines.{WantedLines}

abbrev pub wanted_for : Servers → Bool → WantedLines
wanted_for s all = record { idle = all || picks_of s; cancels = all || stops_with_timer_of s }

-- all of them where the kernel's sums have to be told, and no note tells them
abbrev pub wanted_of : Servers → Bool → WantedLines
wanted_of s has_sums = wanted_for s (wants_sums s && not has_sums)

-- by the kernel that is named, or else by a current one
abbrev pub wanted_by : Option Kernel → Bool → WantedLines
wanted_by kernel has_sums = wanted_of (release_of (unwrap_or kernel current)).servers has_sums
