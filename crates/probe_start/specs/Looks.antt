-- What a line of a probe shows before it is played.
use Rattle.std.specs.Prelude.{Bool, true, false}
use Rattle.trace_data.specs.declared.probe.Probe.{Probe}
use Rattle.trace_data.specs.declared.probe.Probe.TheVariants.{Armed, Dequeued}

abbrev pub shows_dequeue : Probe → Bool
shows_dequeue (Dequeued line) = true
shows_dequeue other = false

abbrev pub arms_timer : Probe → Bool
arms_timer (Armed line) = true
arms_timer other = false
