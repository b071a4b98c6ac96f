-- How often each law held and was broken: the first breach stays the first, and those of known faults are counted apart.
use Rattle.std.specs.Prelude.{ℕ, ◌+◌, ◌-◌, ◌^◌, ◌==◌, ◌&&◌, min, Bool, Option, Some, None}
use Rattle.law_findings.specs.declared.judging.Judgement.{Judgement}
use Rattle.law_findings.specs.declared.judging.Judgement.TheVariants.{Holds, Breaks, Known}
use Rattle.law_findings.specs.declared.judging.LawTally.{LawTally}
use Rattle.law_findings.specs.declared.judging.LawTallies.{LawTallies}
use Rattle.law_findings.specs.declared.words.Breach.{Breach}
use Rattle.law_findings.specs.declared.words.Law.{Law}
use Rattle.law_findings.specs.declared.words.Law.TheVariants.{Progress, Expiry, Firing, ZeroLag, Budget, Total, Pick, Run, Server}

abbrev pub no_tally : LawTally
no_tally = record { held = 0; broken = 0; known = 0; first = None; first_known = None }

abbrev pub no_tallies : LawTallies
no_tallies = record {
  progress = no_tally;
  expiry = no_tally;
  firing = no_tally;
  zero_lag = no_tally;
  budget = no_tally;
  total = no_tally;
  pick = no_tally;
  run = no_tally;
  server = no_tally;
}

abbrev pub first_with : Option Breach → Breach → Option Breach
first_with (Some first) breach = Some first
first_with None breach = Some breach

abbrev pub one_more : ℕ → ℕ
one_more n = min (n + 1) (2 ^ 64 - 1)

abbrev pub judged_with : LawTally → Judgement → LawTally
judged_with t Holds = record t { held = one_more t.held }
judged_with t (Breaks b) = record t { broken = one_more t.broken; first = first_with t.first b }
judged_with t (Known b) = record t { known = one_more t.known; first_known = first_with t.first_known b }

abbrev pub tally_of : LawTallies → Law → LawTally
tally_of s Progress = s.progress
tally_of s Expiry = s.expiry
tally_of s Firing = s.firing
tally_of s ZeroLag = s.zero_lag
tally_of s Budget = s.budget
tally_of s Total = s.total
tally_of s Pick = s.pick
tally_of s Run = s.run
tally_of s Server = s.server

-- one value more of this law, and of no other
abbrev pub judged_in : LawTallies → Law → Judgement → LawTallies
judged_in s Progress j = record s { progress = judged_with s.progress j }
judged_in s Expiry j = record s { expiry = judged_with s.expiry j }
judged_in s Firing j = record s { firing = judged_with s.firing j }
judged_in s ZeroLag j = record s { zero_lag = judged_with s.zero_lag j }
judged_in s Budget j = record s { budget = judged_with s.budget j }
judged_in s Total j = record s { total = judged_with s.total j }
judged_in s Pick j = record s { pick = judged_with s.pick j }
judged_in s Run j = record s { run = judged_with s.run j }
judged_in s Server j = record s { server = judged_with s.server j }

-- no law is broken but by known faults
abbrev pub none_broken : LawTallies → Bool
none_broken s =
    (s.progress.broken == 0) && (s.expiry.broken == 0) && (s.firing.broken == 0) && (s.zero_lag.broken == 0) && (s.budget.broken == 0) && (s.total.broken == 0) && (s.pick.broken == 0) && (s.run.broken == 0) && (s.server.broken == 0)
