-- The lines of probes of a text are explained by the rules of the kernel.
use Rattle.std.specs.Prelude.{◌≡◌, ◌≢◌, ℕ, Bool, true, false, if◌then◌else◌, List, [], map, unwrap_or}
use Rattle.kernel_rules.specs.declared.charge.ChargeLaw.{ChargeLaw}
use Rattle.kernel_rules.specs.declared.charge.ChargeLaw.TheVariants.{Documentation}
use Rattle.kernel_rules.specs.Releases.{charge_law}
use Rattle.timer_play.specs.Kernels.{current}
use Rattle.trace_options.specs.declared.options.CheckOptions.{CheckOptions}
use Rattle.probe_run.specs.declared.rules.PlayRules.{PlayRules}
use Rattle.probe_run.specs.declared.rules.RunStart.{RunStart}
use Rattle.probe_run.specs.Start.{start_of}
use Rattle.probe_explain.specs.declared.search.ProbeLine.{ProbeLine}
use Rattle.probe_explain.specs.Explained.{IsExplained}
use Rattle.check_settings.specs.Heads.{chosen, is_documented}
use Rattle.check_record.specs.Playing.{IsPlayedBy}
use Rattle.check_record.specs.Reading.{IsWhole}
use Rattle.check_record.specs.Shown.{Shown, as_read, shown_by}

-- by whose arithmetic: of the kernel that an option names, or else a note, or else of a current one
abbrev pub law_of : Shown → CheckOptions → ChargeLaw
law_of s o = if is_documented o.arithmetic then Documentation else charge_law (unwrap_or (chosen o.kernel s.kernel) current)

-- all lines of probes that were shown, in their order, by that arithmetic and no changed rule, where they show dequeues
pub record IsExplainedText (o : CheckOptions) (s : Shown) : Type 0 where
  pub rules : PlayRules
  pub start : RunStart
  pub lines : List ProbeLine
  pub all : map as_read lines ≡ s.probes
  pub by : IsPlayedBy (law_of s o) rules
  pub dequeues : rules.has_dequeues ≡ s.dequeues
  pub timers : rules.has_timers ≡ s.timers
  pub explained : s.dequeues ≡ true → IsExplained rules (start_of start) lines

-- what a verdict that agrees says of the text that was read: no line has a flaw, and unless timers are compared, its lines of probes
-- are explained, if it has some
abbrev pub IsAgreedBy : CheckOptions → Bool → List ℕ → Type 0
IsAgreedBy o beside text =
    let s = shown_by o beside text in
    IsWhole o beside text × (o.by_timers ≡ false → s.probes ≢ [] → IsExplainedText o s)
