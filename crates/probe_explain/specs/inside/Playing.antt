-- What a play has taken, and what it came to.
use Rattle.std.specs.Prelude.{◌≡◌, None, List, [], ◌∷◌, ◌++◌}
use Rattle.probe_run.specs.declared.rules.PlayRules.{PlayRules}
use Rattle.probe_run.specs.State.{State}
use Rattle.probe_run.specs.Runs.{state_of}
use Rattle.probe_explain.specs.declared.search.ProbeLine.{ProbeLine}
use Rattle.probe_explain.specs.declared.play.Play.{Play}
use Rattle.probe_explain.specs.Explained.{IsExplained, IsPlain, Leads}

abbrev pub come_to : Play → State
come_to p = state_of p.run

-- these lines were played: where nothing differs after them, nothing did before, and a run leads over them
unfoldable pub IsPlayed : PlayRules → State → List ProbeLine → State → Type 0
IsPlayed t old ls new = IsPlain t → new.first ≡ None → (old.first ≡ None) × Leads t old ls new

-- by these rules and from this start a play has taken these lines: the first of them were played, the others wait
unfoldable pub HasTaken : Play → PlayRules → State → List ProbeLine → Type 0
HasTaken p t start ls =
    (p.rules ≡ t) × (played : List ProbeLine) × (ls ≡ played ++ p.waiting.items) × IsPlayed t start played (come_to p)

-- what it has taken is the same
unfoldable pub TakesNothing : Play → Play → Type 0
TakesNothing old new = (t : PlayRules) (start : State) (ls : List ProbeLine) → HasTaken old t start ls → HasTaken new t start ls

-- it has taken one line more
unfoldable pub TakesLine : Play → ProbeLine → Play → Type 0
TakesLine old l new =
    (t : PlayRules) (start : State) (ls : List ProbeLine) → HasTaken old t start ls → HasTaken new t start (ls ++ l ∷ [])

-- all that a play took is explained, where nothing differs by the rules of the kernel
abbrev pub ExplainsAll : Play → PlayRules → State → List ProbeLine → Type 0
ExplainsAll p t start ls = IsPlain t → (come_to p).first ≡ None → IsExplained t start ls

-- each record that it has taken is explained, where nothing differs
unfoldable pub Finishes : Play → Play → Type 0
Finishes old new = (t : PlayRules) (start : State) (ls : List ProbeLine) → HasTaken old t start ls → ExplainsAll new t start ls
