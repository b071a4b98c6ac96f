-- Which laws a record is held to.
use Rattle.std.specs.Prelude.{Bool, true, false}
use Rattle.law_findings.specs.declared.asked.AskedLaws.{AskedLaws}
use Rattle.law_findings.specs.declared.words.Law.{Law}
use Rattle.law_findings.specs.declared.words.Law.TheVariants.{Progress, Expiry, Firing, ZeroLag, Budget, Total, Pick, Run, Server}

abbrev pub all_alike : Bool → AskedLaws
all_alike b = record {
  progress = b;
  expiry = b;
  firing = b;
  zero_lag = b;
  budget = b;
  total = b;
  pick = b;
  run = b;
  server = b;
}

abbrev pub all_asked : AskedLaws
all_asked = all_alike true

abbrev pub none_asked : AskedLaws
none_asked = all_alike false

abbrev pub is_asked : AskedLaws → Law → Bool
is_asked a Progress = a.progress
is_asked a Expiry = a.expiry
is_asked a Firing = a.firing
is_asked a ZeroLag = a.zero_lag
is_asked a Budget = a.budget
is_asked a Total = a.total
is_asked a Pick = a.pick
is_asked a Run = a.run
is_asked a Server = a.server

abbrev pub asked_with : AskedLaws → Law → AskedLaws
asked_with a Progress = record a { progress = true }
asked_with a Expiry = record a { expiry = true }
asked_with a Firing = record a { firing = true }
asked_with a ZeroLag = record a { zero_lag = true }
asked_with a Budget = record a { budget = true }
asked_with a Total = record a { total = true }
asked_with a Pick = record a { pick = true }
asked_with a Run = record a { run = true }
asked_with a Server = record a { server = true }
