-- Progress (Abeni and Buttazzo 1998; sched-deadline.rst 2.1): a task that is throttled gets its budget again, so its
-- replenishment timer is armed, or is just firing, or the same call replenishes it or arms the timer.
use Rattle.std.specs.Prelude.{IsTrue, ◌⊎◌}
use Rattle.law_findings.specs.declared.progress.Throttled.{Throttled}

abbrev pub IsWaitedFor : Throttled → Type 0
IsWaitedFor t = IsTrue t.is_armed ⊎ IsTrue t.is_firing ⊎ IsTrue t.is_answered
