-- A kernel is judged by a check that a kernel of its release was held to.
use Rattle.std.specs.Prelude.{◌≡◌, ℕ, List, Bool, not, if◌then◌else◌, Option, Some, None}
use Rattle.trace_data.specs.declared.note.Kernel.{Kernel}
use Rattle.kernel_rules.specs.Releases.{is_judged_by_probes, is_judged_by_timers, tried_by_probes, tried_by_timers}
use Rattle.trace_check.specs.declared.untried.Check.{Check}
use Rattle.trace_check.specs.declared.untried.Check.TheVariants.{Probes, Timers}
use Rattle.trace_options.specs.declared.fault.Fault.{Fault}
use Rattle.trace_options.specs.declared.fault.Fault.TheVariants.{UntriedKernel}

abbrev pub is_judged : Check → Option Kernel → Bool
is_judged Probes kernel = is_judged_by_probes kernel
is_judged Timers kernel = is_judged_by_timers kernel

-- the kernel, where its release was not tried
abbrev pub untried_by : Check → Option Kernel → Option Kernel
untried_by check kernel = if is_judged check kernel then None else kernel

-- the releases that were tried
abbrev pub tried_by : Check → List ℕ
tried_by Probes = tried_by_probes
tried_by Timers = tried_by_timers

-- a fault of a kernel that was not tried tells those that were
abbrev pub TellsTried : Check → Fault → Type 0
TellsTried check (UntriedKernel kernel tried differ) = tried.now ≡ tried_by check
TellsTried check fault = Unit {0}
