-- A record that was read whole, played to its end and of which nothing differs.
use Rattle.std.proofs.Common.{◌≡◌, ◌≢◌, ℕ, Bool, refl, sym, ap, subst, ◌∙◌, List, [], Option, Some, None, map, option_map, IfSome}
use Rattle.kernel_rules.specs.declared.charge.ChargeLaw.{ChargeLaw}
use Rattle.trace_options.specs.declared.options.CheckOptions.{CheckOptions}
use Rattle.probe_run.specs.declared.rules.PlayRules.{PlayRules}
use Rattle.probe_explain.specs.Taken.{IsExplainedWhere}
use Rattle.probe_explain.specs.declared.search.ProbeLine.{ProbeLine}
use Rattle.check_settings.specs.Heads.{law_by}
use Rattle.check_record.specs.Explains.{IsAgreedBy, IsExplainedText, law_of}
use Rattle.check_record.specs.Playing.{IsEqual, IsPlayedBy, lines_of, rules_in}
use Rattle.check_record.specs.Reading.{HasShown}
use Rattle.check_record.specs.Seen.{IsEnded, NothingDiffers, shown_in}
use Rattle.check_record.specs.Shown.{ShownProbe, Shown, as_read, shown_by}
use Rattle.check_record.specs.declared.gathering.Gathering.{Gathering}
use Rattle.check_record.specs.declared.played.Played.{Played}

-- the rules compare what a text shows
abbrev IsSeenOf : Shown → PlayRules → Type 0
IsSeenOf s t = (t.has_dequeues ≡ s.dequeues) × (t.has_timers ≡ s.timers)

from_played : (o : CheckOptions) (s : Shown) (law : ChargeLaw) (kept : List ProbeLine) (p : Option Played) → law ≡ law_of s o
    → map as_read (lines_of kept p) ≡ s.probes
    → IfSome (option_map (λ (q : Played). q.player) p) IsExplainedWhere
    → IfSome (option_map (λ (q : Played). q.player.rules) p) (IsPlayedBy law)
    → IfSome (option_map (λ (q : Played). q.player.rules) p) (IsSeenOf s)
    → (option_map (λ (q : Played). q.player) p ≡ None → lines_of kept p ≡ [])
    → IfSome (option_map (λ (q : Played). q.player) p) IsEqual → s.probes ≢ [] → IsExplainedText o s
from_played o s law kept None by all explained rules seen none equal some = absurd (some (sym all ∙ ap (λ ls. map as_read ls) (none refl)))
from_played o text law kept (Some q) by all explained rules seen none equal some = record {
  rules = q.player.rules;
  start = q.player.start;
  lines = q.player.lines;
  all = all;
  by = (rules.0 ∙ by, rules.1);
  dequeues = seen.0;
  timers = seen.1;
  explained = λ dequeues. explained (rules.1, seen.0 ∙ dequeues) equal;
}

pub agreed : (o : CheckOptions) (g : Gathering) (beside : Bool) → IsEnded o g → NothingDiffers o g → (text : List ℕ)
    → HasShown o beside (shown_in g) text → IsAgreedBy o beside text
unfolding shown_in shown_by
agreed o g beside ended equal text (whole, shows) =
    let s : Shown = shown_by o beside text in
    let law : law_by g.head o ≡ law_of s o = ap (λ (t : Shown). law_of t o) (sym shows) in
    let all : map as_read (lines_of g.probes.kept.items g.probes.played) ≡ s.probes = ap (λ (t : Shown). t.probes) (sym shows) in (
      whole,
      λ probes some.
          let e = ended probes in
          let seen = subst (λ (t : Shown). IfSome (rules_in g.probes) (IsSeenOf t)) (sym shows) e.2 in
          from_played o s (law_by g.head o) g.probes.kept.items g.probes.played law all e.0 e.1 seen e.3 (equal probes) some,
    )
