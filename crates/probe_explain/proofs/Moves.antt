-- Steps of a run one after another.
use Rattle.std.proofs.Common.{◌≡◌, refl, sym, ◌∙◌, ap, Option, Some, None, List, [], ◌∷◌, ◌++◌, unwrap_or, true, append_assoc}
use Rattle.std.specs.Prelude.{option_and_then}
use Rattle.probe_run.specs.declared.rules.PlayRules.{PlayRules}
use Rattle.probe_run.specs.declared.moves.RunMove.{RunMove}
use Rattle.probe_run.specs.State.{State}
use Rattle.probe_run.specs.Counting.{Goes}
use Rattle.probe_run.specs.Moves.{moved_of}
use Rattle.probe_tasks.specs.declared.choice.LineChoice.{LineChoice}
use Rattle.probe_lines.specs.Lines.{line_of}
use Rattle.probe_explain.specs.declared.search.ProbeLine.{ProbeLine}
use Rattle.probe_explain.specs.Explained.{RunStep, makes, plays, step_of, run_of, lines_of, Leads, IsPlain}
use Rattle.probe_explain.specs.inside.Playing.{IsPlayed}

some_is : (a b : State) → Some a ≡ Some b → a ≡ b
some_is a b e = ap (λ o. unwrap_or o a) e

run_both : (t : PlayRules) (ms ns : List RunStep) (old mid new : State)
    → run_of t old ms ≡ Some mid → run_of t mid ns ≡ Some new → run_of t old (ms ++ ns) ≡ Some new
run_both t [] ns old mid new e f = rw (some_is old mid e) f
run_both t (m ∷ ms) ns old mid new e f =
    elim (step_of t old m) as (λ o. option_and_then (λ next. run_of t next ms) o ≡ Some mid → option_and_then (λ next. run_of t next (ms ++ ns)) o ≡ Some new)
    [ None ↦ λ h. cc | Some next ↦ λ h. run_both t ms ns next mid new h f ] e

lines_both : (ms ns : List RunStep) → lines_of (ms ++ ns) ≡ lines_of ms ++ lines_of ns
lines_both [] ns = refl
lines_both (makes m ∷ ms) ns = lines_both ms ns
lines_both (plays l c ∷ ms) ns = ap (λ ls. l ∷ ls) (lines_both ms ns)

leads_on : (t : PlayRules) (old mid new : State) (ls more : List ProbeLine) → Leads t old ls mid → Leads t mid more new → Leads t old (ls ++ more) new
leads_on t old mid new ls more one other = record {
  steps = one.steps ++ other.steps;
  over = lines_both one.steps other.steps ∙ (ap (λ xs. xs ++ lines_of other.steps) one.over ∙ ap (λ xs. ls ++ xs) other.over);
  goes = run_both t one.steps other.steps old mid new one.goes other.goes;
}

-- nothing was played so far
pub none_played : (t : PlayRules) (s : State) → IsPlayed t s [] s
unfolding IsPlayed
none_played t s plain e = (e, record { steps = []; over = refl; goes = refl })

-- these lines, and then those
pub played_on : (t : PlayRules) (old mid new : State) (ls more : List ProbeLine)
    → IsPlayed t old ls mid → IsPlayed t mid more new → IsPlayed t old (ls ++ more) new
unfolding IsPlayed
played_on t old mid new ls more one other plain e =
    let behind = other plain e in
    let before = one plain behind.0 in
    (before.0, leads_on t old mid new ls more before.1 behind.1)

-- moves before these lines
pub moves_on : (t : PlayRules) (old mid new : State) (ls : List ProbeLine) → IsPlayed t old [] mid → IsPlayed t mid ls new → IsPlayed t old ls new
moves_on t old mid new ls one other = played_on t old mid new [] ls one other

some_then : (s : State) (o : Option State) → o ≡ Some s → option_and_then (λ next. Some next) o ≡ Some s
some_then s None e = e
some_then s (Some a) e = e

-- a move
pub move_played : (t : PlayRules) (m : RunMove) (old new : State) → (t.change ≡ None → Goes old (moved_of t old m) new) → IsPlayed t old [] new
unfolding IsPlayed
move_played t m old new goes plain e =
    let here = goes plain.0 e in
    (here.0, record { steps = makes m ∷ []; over = refl; goes = some_then new (moved_of t old m) here.1 })

-- a line
pub line_played : (t : PlayRules) (l : ProbeLine) (c : LineChoice) (old new : State)
    → (t.change ≡ None → t.has_dequeues ≡ true → Goes old (line_of t old l.place l.probe c) new) → IsPlayed t old (l ∷ []) new
unfolding IsPlayed
line_played t l c old new goes plain e =
    let here = goes plain.0 plain.1 e in
    (here.0, record { steps = plays l c ∷ []; over = refl; goes = some_then new (line_of t old l.place l.probe c) here.1 })
