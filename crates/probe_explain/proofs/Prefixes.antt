-- A prefix of what is explained is explained so far.
use Rattle.std.proofs.Common.{◌≡◌, refl, sym, ◌∙◌, ap, Option, Some, None, List, [], ◌∷◌, ◌++◌}
use Rattle.std.specs.Prelude.{option_and_then}
use Rattle.probe_run.specs.declared.rules.PlayRules.{PlayRules}
use Rattle.probe_run.specs.State.{State}
use Rattle.probe_explain.specs.declared.search.ProbeLine.{ProbeLine}
use Rattle.probe_explain.specs.Explained.{RunStep, makes, plays, step_of, run_of, lines_of, IsExplained, IsExplainedSoFar}

-- the steps over these lines, and those behind
split_steps : (steps : List RunStep) (ls more : List ProbeLine) → lines_of steps ≡ ls ++ more
    → (one : List RunStep) × (other : List RunStep) × (steps ≡ one ++ other) × (lines_of one ≡ ls)
split_steps steps [] more e = ([], steps, refl, refl)
split_steps [] (l ∷ ls) more e = cc
split_steps (makes m ∷ ms) (l ∷ ls) more e =
    let rest = split_steps ms (l ∷ ls) more e in
    (makes m ∷ rest.0, rest.1, ap (λ xs. makes m ∷ xs) rest.2, rest.3)
split_steps (plays p c ∷ ms) (l ∷ ls) more e =
    let tails : lines_of ms ≡ ls ++ more = cc in
    let heads : p ≡ l = cc in
    let rest = split_steps ms ls more tails in
    (plays p c ∷ rest.0, rest.1, ap (λ xs. plays p c ∷ xs) rest.2, ap (λ xs. p ∷ xs) rest.3 ∙ ap (λ x. x ∷ ls) heads)

run_front : (t : PlayRules) (ms ns : List RunStep) (s end : State) → run_of t s (ms ++ ns) ≡ Some end → (mid : State) × (run_of t s ms ≡ Some mid)
run_front t [] ns s end e = (s, refl)
run_front t (m ∷ ms) ns s end e =
    elim (step_of t s m) as (λ o. option_and_then (λ next. run_of t next (ms ++ ns)) o ≡ Some end
    → (mid : State) × (option_and_then (λ next. run_of t next ms) o ≡ Some mid))
    [ None ↦ λ h. cc | Some next ↦ λ h. run_front t ms ns next end h ] e

pub prefix_explained : (t : PlayRules) (start : State) (ls more : List ProbeLine) → IsExplained t start (ls ++ more) → IsExplainedSoFar t start ls
prefix_explained t start ls more h =
    let split = split_steps h.1.steps ls more h.1.over in
    let front = run_front t split.0 split.1 start h.0 (ap (λ ms. run_of t start ms) (sym split.2) ∙ h.1.goes) in
    (front.0, record { steps = split.0; over = split.3; goes = front.1 })
