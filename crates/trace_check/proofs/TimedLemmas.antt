-- A verdict by timers, and the text that was read.
use Rattle.std.proofs.Common.{◌≡◌, ℕ, ◌+◌, ◌==◌, Bool, true, false, not, ◌||◌, cond, List, [], ◌∷◌, length, Option, Some, None, is_none, is_some, option_map, Result, Ok, Err, IfOk, IfSome, IsTrue, refl, sym, ap, subst, ◌∙◌, arith}
use Rattle.std.specs.List.{list_any, position, position_from}
use Rattle.std.proofs.lemmas.Iterator.Adapters.{position_from-zero}
use Rattle.text_bytes.specs.Source.{Opener, Reader}
use Rattle.trace_file.specs.Reading.{IsSoOf}
use Rattle.trace_file.proofs.SoLemmas.{so_by}
use Rattle.trace_options.specs.declared.options.CheckOptions.{CheckOptions}
use Rattle.trace_options.specs.declared.fault.Fault.{Fault}
use Rattle.check_record.specs.Reading.{HasShown}
use Rattle.check_record.specs.Seen.{shown_in, timed_in}
use Rattle.check_record.specs.Shown.{Shown, shown_by}
use Rattle.check_record.specs.declared.gathering.Gathering.{Gathering}
use Rattle.check_record.specs.declared.played.Played.{Played}
use Rattle.check_settings.specs.Heads.{domain_by, open_from, settings_by}
use Rattle.timer_play.specs.Kernels.{setup_by}
use Rattle.timer_play.specs.Playing.{observations_of}
use Rattle.timer_play.specs.declared.setup.RecordSetup.{RecordSetup}
use Rattle.timer_play.specs.declared.setup.RecordStart.{RecordStart}
use Rattle.timer_record.specs.Records.{ended_in, lines_of}
use Rattle.timer_record.specs.declared.lines.KeptLines.{KeptLines}
use Rattle.timer_verdict.specs.Verdicts.{IsJudged, deviates}
use Rattle.timer_verdict.specs.declared.judging.Judged.{Judged}
use Rattle.trace_check.specs.Timed.{IsTimed, IsTimedBy, IsTimedText, IsTimedVerdict, compared_by, is_by_timers}
use Rattle.trace_check.specs.declared.check.Verdict.{Verdict}

none_by : (b : Bool) (n : ℕ) (o : Option ℕ) (c : Bool) → is_none o ≡ not c → is_none (cond b (Some n) o) ≡ not (b || c)
none_by true n o c e = refl
none_by false n o c e = e

none_from : {A : Type 0} (p : A → Bool) (n : ℕ) (xs : List A) → is_none (position_from p n xs) ≡ not (list_any p xs)
none_from p n [] = refl
none_from p n (x ∷ xs) = none_by (p x) n (position_from p (n + 1) xs) (list_any p xs) (none_from p (n + 1) xs)

-- there is no first one where there is none
no_first : {A : Type 0} (p : A → Bool) (xs : List A) → is_none (position p xs) ≡ not (list_any p xs)
no_first p xs = ap is_none (position_from-zero p xs) ∙ none_from p 0 xs

-- a verdict that is none exactly where a first deviation is known, on what was judged of this play
pub timed : (r : Result Verdict Fault) (o : CheckOptions) (g : Gathering) (setup : RecordSetup) (start : RecordStart) (lines : KeptLines) (j : Judged)
    → IfOk r (λ (v : Verdict). v.agrees ≡ is_none j.first) → IsJudged j
    → j.outcome.observations.items ≡ compared_by g.head.has_governor lines (observations_of setup start lines o.within)
    → option_map ended_in (timed_in g).lines.kept ≡ Some (lines_of lines) → start.domain.items ≡ domain_by g.head o → start.sums.items ≡ g.head.sums.items
    → start.open_from ≡ open_from g.head.opening → setup_by (settings_by g.head o) start ≡ Ok setup → IfOk r (λ (v : Verdict). IsTimedVerdict o g.head (timed_in g).lines.kept v.agrees)
timed (Ok v) o g setup start lines j agrees judged observed gathered domain sums unknown by = record {
  setup = setup;
  start = start;
  lines = lines;
  all = gathered;
  domain = domain;
  sums = sums;
  unknown = unknown;
  by = by;
  verdict = agrees ∙ ap is_none judged.first ∙ no_first deviates j.outcome.observations.items ∙ ap (λ os. not (list_any deviates os)) observed;
}
timed (Err e) o g setup start lines j agrees judged observed gathered domain sums unknown by = tt

-- where it agrees, and where it differs
pub agreeing : (r : Result Verdict Fault) (o : CheckOptions) (g : Gathering) → IfOk r (λ (v : Verdict). IsTimedVerdict o g.head (timed_in g).lines.kept v.agrees)
    → IfOk r (λ (v : Verdict). IsTrue v.agrees → IsTimed o g true)
unfolding IsTimed
agreeing (Ok v) o g so = λ agrees asked. subst (IsTimedVerdict o g.head (timed_in g).lines.kept) agrees so
agreeing (Err e) o g so = tt

pub differing : (r : Result Verdict Fault) (o : CheckOptions) (g : Gathering) → IfOk r (λ (v : Verdict). IsTimedVerdict o g.head (timed_in g).lines.kept v.agrees)
    → IfOk r (λ (v : Verdict). v.agrees ≡ false → IsTimed o g false)
unfolding IsTimed
differing (Ok v) o g so = λ differs asked. subst (IsTimedVerdict o g.head (timed_in g).lines.kept) differs so
differing (Err e) o g so = tt

not_both : (b : Bool) → b ≡ false → IsTrue b → ⊥
not_both true e t = absurd (grind (arith, e))
not_both false e t = absurd (grind (arith, t))

pub moved : (o : CheckOptions) (g m : Gathering) (agrees : Bool) → m ≡ g → IsTimed o m agrees → IsTimed o g agrees
moved o g m agrees same so = subst (λ (h : Gathering). IsTimed o h agrees) same so

-- by probes nothing is said of timers
pub not_timed : (o : CheckOptions) (g : Gathering) (agrees : Bool) → is_by_timers o g ≡ false → IsTimed o g agrees
unfolding IsTimed
not_timed o g agrees by = λ asked. absurd (not_both (is_by_timers o g) by asked)

-- what is so where there is a verdict
pub where_some : (f : Option Verdict) (v : Verdict) (P : Type 0) → f ≡ Some v → IfSome f (λ w. P) → P
where_some f v P is so = subst (λ (h : Option Verdict). IfSome h (λ w. P)) is so

-- where no line of a probe came, none was played
by_timers : (b : Bool) (p : Option Played) (some : Bool) → IsTrue (b || not (is_some p || some)) → IsTrue (b || is_none (option_map (λ (q : Played). q.player) p))
by_timers true p some asked = asked
by_timers false None some asked = refl
by_timers false (Some q) some asked = absurd (grind (arith, asked))

-- what a verdict on what was gathered says of the text
pub of_text : (o : CheckOptions) (beside : Bool) (g : Gathering) (agrees : Bool) → IsTimed o g agrees → (text : List ℕ)
    → HasShown o beside (shown_in g) text → IsTimedBy o beside agrees text
unfolding shown_in shown_by IsTimed
of_text o beside g agrees timed text (whole, shows) =
    let F : Shown → Type 0 = λ s. IsTrue (o.by_timers || not s.timed.probed) → IsTimedText o agrees s in
    let so : F (shown_in g) = λ asked. record {
      head = g.head;
      told = refl;
      opening = refl;
      governor = refl;
      verdict = timed (by_timers o.by_timers g.probes.played (not (length g.probes.kept.items == 0)) asked);
    } in
    subst F (sym shows) so

-- what follows of a verdict that differs
pub of_unequal : (r : Result Verdict Fault) (E P : Type 0) → IfOk r (λ (v : Verdict). v.agrees ≡ false → E) → (E → P) → IfOk r (λ (v : Verdict). v.agrees ≡ false → P)
of_unequal (Ok v) E P so to = λ differs. to (so differs)
of_unequal (Err e) E P so to = so

module _ {O N D : Type 0} (o : Opener O D) (opener : O) (g : Reader N D) (read : N) (name : List ℕ) where
  pub timed_by : (options : CheckOptions) (beside : Bool) (gathering : Gathering) (agrees : Bool)
      → IsSoOf o opener g read name (HasShown options beside (shown_in gathering)) → IsTimed options gathering agrees
      → IsSoOf o opener g read name (IsTimedBy options beside agrees)
  timed_by options beside gathering agrees so timed =
      so_by o opener g read (HasShown options beside (shown_in gathering)) (IsTimedBy options beside agrees) name
      (of_text options beside gathering agrees timed) so
