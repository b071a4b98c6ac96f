-- When a record agrees, and what is told of the first timer that does not.
use Rattle.std.specs.Prelude.{◌≡◌, ℕ, Bool, true, false, List, ◌++◌, codes, position}
use Rattle.timer_tasks.specs.declared.observation.ObservedAnswer.{ObservedAnswer}
use Rattle.timer_tasks.specs.declared.observation.ObservedAnswer.TheVariants.{Differs}
use Rattle.timer_tasks.specs.declared.observation.Observation.{Observation}
use Rattle.timer_verdict.specs.declared.judging.Judged.{Judged}

abbrev pub is_deviation : ObservedAnswer → Bool
is_deviation Differs = true
is_deviation _ = false

abbrev pub deviates : Observation → Bool
deviates o = is_deviation o.answer

-- the first deviation of what was played
pub record IsJudged (j : Judged) : Type 0 where
  pub first : j.first ≡ position deviates j.outcome.observations.items

-- the last line of a text says that each timer is where the rules put it
pub record SaysAgreed (text : List ℕ) : Type 0 where
  pub before : List ℕ
  pub is : text ≡ before ++ codes "agrees\n"
