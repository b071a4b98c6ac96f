-- What a line comes to, by its answer.
use Rattle.std.specs.Prelude.{Option, is_some}
use Rattle.convert_facts.specs.Given.{Outcome}
use Rattle.convert_facts.specs.declared.fault.Wrong.{Wrong}

-- a line's answer, and what is told with it
abbrev pub outcome_of : {S : Type 0} → Option Wrong → S → Outcome S
outcome_of wrong told = record { is_wrong = is_some wrong; told = told }
