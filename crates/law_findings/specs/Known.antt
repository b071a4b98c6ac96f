-- Faults that kernels of these releases are known to have.
use Rattle.std.specs.Prelude.{ℕ, Bool, false, not, ◌&&◌, ◌||◌, ◌==◌, nat_lt, nat_le, Option, Some, None}
use Rattle.trace_data.specs.declared.note.Kernel.{Kernel}
use Rattle.law_findings.specs.declared.known.Sign.{Sign}
use Rattle.law_findings.specs.declared.known.Sign.TheVariants.{LeftThrottled, BoostEnded, ProductWraps, LeftAsleep, ServersTakenTwice, SharesTakenAgain, LowAtStart, BoostNotPicked}

-- of this minor release of Linux 6, or of a later release
abbrev pub is_since : Kernel → ℕ → Bool
is_since k minor = nat_lt 6 k.major || ((k.major == 6) && nat_le minor k.minor)

-- 6.3 has "sched/deadline: Add more reschedule cases to prio_changed_dl()"
abbrev pub is_known_of : Sign → Kernel → Bool
is_known_of LeftThrottled k = is_since k 1
is_known_of BoostEnded k = is_since k 1
is_known_of ProductWraps k = is_since k 1
is_known_of LeftAsleep k = is_since k 1
is_known_of ServersTakenTwice k = is_since k 12
is_known_of SharesTakenAgain k = is_since k 1
is_known_of LowAtStart k = is_since k 1
is_known_of BoostNotPicked k = is_since k 1 && not (is_since k 3)

abbrev pub is_known_in : Sign → Option Kernel → Bool
is_known_in sign None = false
is_known_in sign (Some k) = is_known_of sign k
