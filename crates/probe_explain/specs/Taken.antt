-- What a player has taken, and what follows where nothing of it differs.
use Rattle.std.specs.Prelude.{◌≡◌, Option, None, List, ◌++◌}
use Rattle.probe_findings.specs.declared.words.Deviation.{Deviation}
use Rattle.probe_run.specs.declared.rules.PlayRules.{PlayRules}
use Rattle.probe_run.specs.declared.rules.RunStart.{RunStart}
use Rattle.probe_run.specs.Start.{start_of}
use Rattle.probe_explain.specs.declared.search.ProbeLine.{ProbeLine}
use Rattle.probe_explain.specs.Explained.{IsExplained, IsExplainedSoFar, IsPlain}

-- by which rules, with which start, which lines, and the first value that differs so far
pub record Taken : Type 0 where
  pub rules : PlayRules
  pub start : RunStart
  pub lines : List ProbeLine
  pub first : Option Deviation

-- where nothing differs by the rules of the kernel, all lines are explained
abbrev pub IsExplainedWhere : Taken → Type 0
IsExplainedWhere p = IsPlain p.rules → p.first ≡ None → IsExplained p.rules (start_of p.start) p.lines

-- and so are the first of them, so far
abbrev pub IsExplainedSoFarWhere : Taken → Type 0
IsExplainedSoFarWhere p =
    (ls more : List ProbeLine) → p.lines ≡ ls ++ more → IsPlain p.rules → p.first ≡ None → IsExplainedSoFar p.rules (start_of p.start) ls
