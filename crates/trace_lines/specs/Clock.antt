-- The clock of a record: its 0-lag timers fire by CLOCK_MONOTONIC, and their lines tell by which clock the moments are.
use Rattle.std.specs.Prelude.{ℕ, nat_lt, ◌+◌, ◌-◌, Option, Some, None, if◌then◌else◌}
use Rattle.trace_data.specs.declared.fixed.Fixed.{Fixed}
use Rattle.trace_data.specs.declared.fixed.Fixed.TheVariants as fixed
use Rattle.trace_data.specs.declared.fixed.TimerFunction.{TimerFunction}
use Rattle.trace_data.specs.declared.fixed.TimerFunction.TheVariants.{ZeroLag}
use Rattle.trace_data.specs.declared.line.Flaw.TheVariants.{WrongClock}
use Rattle.trace_data.specs.declared.line.RecordLine.{RecordLine}
use Rattle.trace_data.specs.declared.line.RecordLine.TheVariants as line
use Rattle.trace_data.specs.declared.line.Said.{Said}
use Rattle.trace_data.specs.declared.line.Said.TheVariants as said
use Rattle.trace_lines.specs.declared.clock.Clock.{Clock}
use Rattle.trace_lines.specs.declared.clock.Clock.TheVariants.{Untold, Right, Wrong}
use Rattle.trace_lines.specs.declared.clock.TheConstants.{CLOCK_MAX}
use Rattle.trace_lines.specs.declared.reader.Halt.{Halt}

abbrev pub fired_drift : ℕ → TimerFunction → ℕ → Option ℕ
fired_drift at ZeroLag now = Some ((now - at) + (at - now))
fired_drift at function now = None

abbrev pub fixed_drift : ℕ → Fixed → Option ℕ
fixed_drift at (fixed.TimerFired timer function tick now) = fired_drift at function now
fixed_drift at other = None

-- how far the now of a 0-lag timer that fires lies from the moment of its line
abbrev pub said_drift : ℕ → Said → Option ℕ
said_drift at (said.Fixed f) = fixed_drift at f
said_drift at (said.Probe p) = None

abbrev pub drift : RecordLine → Option ℕ
drift (line.Event at grain cpu pid said) = said_drift at said
drift other = None

-- one that is far off: where none was near before, the first such line is kept
abbrev pub far_off : ℕ → Clock → Clock
far_off n Untold = Wrong n
far_off n Right = Right
far_off n (Wrong line) = Wrong line

-- what a line of this number says of the clock
abbrev pub clock_by : Option ℕ → ℕ → Clock → Clock
clock_by None n clock = clock
clock_by (Some drift) n clock = if nat_lt CLOCK_MAX drift then far_off n clock else Right

-- a record whose 0-lag timers are all far off halts at the first of them
abbrev pub halt_of_clock : Clock → Option Halt
halt_of_clock (Wrong line) = Some (record { line = line; flaw = Some WrongClock })
halt_of_clock other = None
