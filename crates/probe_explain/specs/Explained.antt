-- Runs of the rules, and what it means that a record is explained.
use Rattle.std.specs.Prelude.{◌≡◌, true, Option, Some, None, option_and_then, List, [], ◌∷◌, ◌++◌}
use Rattle.trace_data.specs.declared.probe.Probe.{Probe}
use Rattle.probe_findings.specs.declared.words.ProbedLine.{ProbedLine}
use Rattle.probe_run.specs.declared.rules.PlayRules.{PlayRules}
use Rattle.probe_run.specs.declared.moves.RunMove.{RunMove}
use Rattle.probe_run.specs.State.{State}
use Rattle.probe_run.specs.Moves.{moved_of}
use Rattle.probe_tasks.specs.declared.choice.LineChoice.{LineChoice}
use Rattle.probe_lines.specs.Lines.{line_of}
use Rattle.probe_explain.specs.declared.search.ProbeLine.{ProbeLine}

-- what a run does next: an effect, a reading or the rest of a dequeue has its point, or a line is played with what it leaves open
pub data RunStep : Type 0 where
  makes : RunMove → RunStep
  plays : ProbeLine → LineChoice → RunStep

abbrev pub step_of : PlayRules → State → RunStep → Option State
step_of t s (makes m) = moved_of t s m
step_of t s (plays l c) = line_of t s l.place l.probe c

-- one step after another; none where one of them is refused
abbrev pub run_of : PlayRules → State → List RunStep → Option State
run_of t s [] = Some s
run_of t s (m ∷ ms) = option_and_then (λ next. run_of t next ms) (step_of t s m)

abbrev pub lines_of : List RunStep → List ProbeLine
lines_of [] = []
lines_of (makes m ∷ ms) = lines_of ms
lines_of (plays l c ∷ ms) = l ∷ lines_of ms

-- some run leads from this start over these lines to here; it is not said which
pub record Leads (t : PlayRules) (start : State) (ls : List ProbeLine) (here : State) : Type 0 where
  pub steps : List RunStep
  pub over : lines_of steps ≡ ls
  pub goes : run_of t start steps ≡ Some here

-- these lines are explained so far
abbrev pub IsExplainedSoFar : PlayRules → State → List ProbeLine → Type 0
IsExplainedSoFar t start ls = (here : State) × Leads t start ls here

-- a record of these lines is explained: all that was read has had its point
abbrev pub IsExplained : PlayRules → State → List ProbeLine → Type 0
IsExplained t start ls = (here : State) × Leads t start ls here × (here.claims ≡ [])

-- the rules are the kernel's, and the record shows dequeues
abbrev pub IsPlain : PlayRules → Type 0
IsPlain t = (t.change ≡ None) × (t.has_dequeues ≡ true)
