-- A verdict by timers: it agrees where no timer that is compared is elsewhere than the rules put it.
use Rattle.std.specs.Prelude.{◌≡◌, ℕ, Bool, not, ◌||◌, if◌then◌else◌, List, Option, Some, is_none, is_some, option_map, Ok, IsTrue}
use Rattle.std.specs.List.{list_any}
use Rattle.check_record.specs.Playing.{taken_in}
use Rattle.check_record.specs.Seen.{timed_in}
use Rattle.check_record.specs.Shown.{Shown, shown_by}
use Rattle.check_record.specs.declared.gathering.Gathering.{Gathering}
use Rattle.check_settings.specs.Heads.{domain_by, open_from, settings_by, told_of}
use Rattle.check_settings.specs.declared.head.RecordHead.{RecordHead}
use Rattle.timer_play.specs.Kernels.{setup_by}
use Rattle.timer_play.specs.Playing.{observations_of}
use Rattle.timer_play.specs.declared.setup.RecordSetup.{RecordSetup}
use Rattle.timer_play.specs.declared.setup.RecordStart.{RecordStart}
use Rattle.timer_record.specs.Kept.{Kept}
use Rattle.timer_record.specs.Records.{ended_in, lines_of}
use Rattle.timer_record.specs.declared.lines.KeptLines.{KeptLines}
use Rattle.timer_tasks.specs.declared.observation.Observation.{Observation}
use Rattle.timer_verdict.specs.Speed.{without_slow}
use Rattle.timer_verdict.specs.Verdicts.{deviates}
use Rattle.trace_options.specs.declared.options.CheckOptions.{CheckOptions}
use Rattle.trace_check.specs.declared.check.CheckRequest.{CheckRequest}

-- what is compared of what a play observes, on a machine with a governor or on one without
abbrev pub compared_by : Bool → KeptLines → List Observation → List Observation
compared_by governor lines os = if governor then without_slow lines os else os

-- the play of these lines, begun so, comes to this verdict
abbrev pub IsVerdictOn : RecordSetup → RecordStart → KeptLines → Bool → ℕ → Bool → Type 0
IsVerdictOn setup start lines governor within agrees = agrees ≡ not (list_any deviates (compared_by governor lines (observations_of setup start lines within)))

-- the verdict on what was kept: its play begins with what options and notes tell
pub record IsTimedVerdict (o : CheckOptions) (h : RecordHead) (kept : Option Kept) (agrees : Bool) : Type 0 where
  pub setup : RecordSetup
  pub start : RecordStart
  pub lines : KeptLines
  pub all : option_map ended_in kept ≡ Some (lines_of lines)
  pub domain : start.domain.items ≡ domain_by h o
  pub sums : start.sums.items ≡ h.sums.items
  pub unknown : start.open_from ≡ open_from h.opening
  pub by : setup_by (settings_by h o) start ≡ Ok setup
  pub verdict : IsVerdictOn setup start lines h.has_governor o.within agrees

-- timers are compared where that is asked for, or no line of a probe was played
abbrev pub is_by_timers : CheckOptions → Gathering → Bool
is_by_timers o g = o.by_timers || is_none (taken_in g.probes)

unfoldable pub IsTimed : CheckOptions → Gathering → Bool → Type 0
IsTimed o g agrees = IsTrue (is_by_timers o g) → IsTimedVerdict o g.head (timed_in g).lines.kept agrees

-- a verdict on what the lines of a text show: on the lines of timers that are kept of it, by what its notes tell
pub record IsTimedText (o : CheckOptions) (agrees : Bool) (s : Shown) : Type 0 where
  pub head : RecordHead
  pub told : told_of head ≡ s.timed.told
  pub opening : head.opening ≡ s.timed.opening
  pub governor : head.has_governor ≡ s.timed.governor
  pub verdict : IsTimedVerdict o head s.timed.lines.kept agrees

-- lines of timers are kept beside lines of probes where states are wanted
abbrev pub shows_states : CheckRequest → Bool
shows_states w = is_some w.json || is_some w.picture

-- where timers are asked for, or there is no line of a probe
abbrev pub IsTimedBy : CheckOptions → Bool → Bool → List ℕ → Type 0
IsTimedBy o beside agrees text =
    let s = shown_by o beside text in
    IsTrue (o.by_timers || not s.timed.probed) → IsTimedText o agrees s
