-- What a run is where each call is done before the next line: a function of the lines.
use Rattle.std.specs.Prelude.{ℕ, ◌≡◌, true, Some, None, List, [], ◌∷◌}
use Rattle.std.specs.List.{list_all}
use Rattle.probe_run.specs.declared.rules.PlayRules.{PlayRules}
use Rattle.probe_run.specs.declared.moves.RunMove.{RunMove}
use Rattle.probe_run.specs.State.{State}
use Rattle.probe_run.specs.Moves.{is_claim_by, moved_of}
use Rattle.probe_tasks.specs.declared.choice.LineChoice.{LineChoice}
use Rattle.probe_explain.specs.Explained.{RunStep, makes, plays, step_of, run_of, lines_of}

-- no effect is pending, no dequeue waits, and all that was read has had its point
abbrev pub HasNothingPending : State → Type 0
HasNothingPending s = (s.pending ≡ []) × (s.open_dequeues ≡ []) × (s.claims ≡ [])

abbrev pub OnlyLinesComeNext : PlayRules → State → Type 0
OnlyLinesComeNext t s = HasNothingPending s → (m : RunMove) → moved_of t s m ≡ None

-- what one CPU has read has had no point yet, and nothing else is pending
abbrev pub HasReadingsOfOne : State → Type 0
HasReadingsOfOne s = (s.pending ≡ []) × (s.open_dequeues ≡ []) × ((x : ℕ) × (list_all (is_claim_by x) s.claims ≡ true))

-- a line is played as it is shown
abbrev pub as_shown : LineChoice
as_shown = record { extra_bw = None; late = None; cost = None }

-- nothing is pending at each line of a run nor at its end, each line is played as it is shown, and between two lines there are readings of
-- one CPU alone
abbrev pub HasNothingPendingAtLines : PlayRules → State → List RunStep → Type 0
HasNothingPendingAtLines t s [] = HasNothingPending s
HasNothingPendingAtLines t s (makes m ∷ ms) =
    HasReadingsOfOne s × ((next : State) → step_of t s (makes m) ≡ Some next → HasNothingPendingAtLines t next ms)
HasNothingPendingAtLines t s (plays l c ∷ ms) =
    HasNothingPending s × (c ≡ as_shown) × ((next : State) → step_of t s (plays l c) ≡ Some next → HasNothingPendingAtLines t next ms)

abbrev pub LinesDecide : PlayRules → State → List RunStep → List RunStep → Type 0
LinesDecide t s one other =
    lines_of one ≡ lines_of other → HasNothingPendingAtLines t s one → HasNothingPendingAtLines t s other
    → (here there : State) → run_of t s one ≡ Some here → run_of t s other ≡ Some there → here ≡ there
