-- What a record that is being read has shown so far, and when its lines of probes are ended.
use Rattle.std.specs.Prelude.{◌≡◌, false, IfSome, [], None, map}
use Rattle.trace_options.specs.declared.options.CheckOptions.{CheckOptions}
use Rattle.probe_explain.specs.Taken.{IsExplainedWhere}
use Rattle.check_settings.specs.Timers.{timers_of}
use Rattle.check_settings.specs.Heads.{law_by, told_of}
use Rattle.check_record.specs.Playing.{AreSeenBy, IsEqual, IsPlayedBy, has_lines, lines_in, rules_in, taken_in}
use Rattle.check_record.specs.Shown.{Shown, as_read}
use Rattle.check_record.specs.Timed.{Timed}
use Rattle.check_record.specs.declared.gathering.Gathering.{Gathering}

-- what lines have told of timers so far
abbrev pub timed_in : Gathering → Timed
timed_in g = record {
  options = g.options.now;
  beside = g.keeps_timers;
  probed = has_lines g.probes;
  told = told_of g.head;
  opening = g.head.opening;
  governor = g.head.has_governor;
  lines = timers_of g.timers;
}

unfoldable pub shown_in : Gathering → Shown
shown_in g = record {
  probes = map as_read (lines_in g.probes);
  kernel = g.head.kernel;
  dequeues = g.probes.look.has_dequeues;
  timers = g.probes.look.has_timers;
  timed = timed_in g;
}

-- unless the verdict is by timers, all lines of probes were played by the rules that are told at their end, and are explained where
-- nothing differs; where none was played, there is none
abbrev pub IsEnded : CheckOptions → Gathering → Type 0
IsEnded o g =
    o.by_timers ≡ false → IfSome (taken_in g.probes) IsExplainedWhere × IfSome (rules_in g.probes) (IsPlayedBy (law_by g.head o))
    × IfSome (rules_in g.probes) (AreSeenBy g.probes.look)
    × (taken_in g.probes ≡ None → lines_in g.probes ≡ [])

-- unless the verdict is by timers, no value of a line of a probe differs
abbrev pub NothingDiffers : CheckOptions → Gathering → Type 0
NothingDiffers o g = o.by_timers ≡ false → IfSome (taken_in g.probes) IsEqual
