-- The lines of probes that came so far: those that are kept, or those that were played.
use Rattle.std.specs.Prelude.{◌≡◌, Bool, not, ◌||◌, ◌==◌, List, length, Option, Some, None, is_some, option_map}
use Rattle.kernel_rules.specs.declared.charge.ChargeLaw.{ChargeLaw}
use Rattle.probe_run.specs.declared.rules.PlayRules.{PlayRules}
use Rattle.probe_explain.specs.Taken.{Taken}
use Rattle.probe_explain.specs.declared.search.ProbeLine.{ProbeLine}
use Rattle.probe_start.specs.declared.look.RecordLook.{RecordLook}
use Rattle.check_record.specs.declared.played.Played.{Played}
use Rattle.check_record.specs.declared.probes.Probes.{Probes}

-- what the player has taken, where one was begun
abbrev pub taken_in : Probes → Option Taken
taken_in p = option_map (λ (played : Played). played.player) p.played

abbrev pub rules_in : Probes → Option PlayRules
rules_in p = option_map (λ (played : Played). played.player.rules) p.played

abbrev pub lines_of : List ProbeLine → Option Played → List ProbeLine
lines_of kept None = kept
lines_of kept (Some played) = played.player.lines

abbrev pub lines_in : Probes → List ProbeLine
lines_in p = lines_of p.kept.items p.played

-- by this arithmetic, and with no rule changed
abbrev pub IsPlayedBy : ChargeLaw → PlayRules → Type 0
IsPlayedBy law t = (t.law ≡ law) × (t.change ≡ None)

-- sums and timers are compared where lines show dequeues and timers
abbrev pub AreSeenBy : RecordLook → PlayRules → Type 0
AreSeenBy look t = (t.has_dequeues ≡ look.has_dequeues) × (t.has_timers ≡ look.has_timers)

abbrev pub has_lines : Probes → Bool
has_lines p = is_some p.played || not (length p.kept.items == 0)

-- each value that was compared is the kernel's
abbrev pub IsEqual : Taken → Type 0
IsEqual taken = taken.first ≡ None
