-- What an entry makes of a timer, for the proofs.
use Rattle.std.specs.Prelude.{Option, Some, None, unwrap_or}
use Rattle.grub_plan.specs.Timers.{Alarm, Touch}

abbrev pub leaves : Touch
leaves = None

abbrev pub disarms : Touch
disarms = Some None

abbrev pub arms : Alarm → Touch
arms alarm = Some (Some alarm)

abbrev pub alarm_after : Touch → Option Alarm → Option Alarm
alarm_after touched alarm = unwrap_or touched alarm
