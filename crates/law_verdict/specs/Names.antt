-- The names of laws, as options and verdicts have them.
use Rattle.std.specs.Prelude.{ℕ, Bool, if◌then◌else◌, List, [], ◌∷◌, codes, Option, Some, option_and_then, position, slice_get}
use Rattle.std.specs.List.{slice_split}
use Rattle.std.specs.Str.{bytes_eq}
use Rattle.law_findings.specs.Asked.{asked_with, none_asked}
use Rattle.law_findings.specs.declared.asked.AskedLaws.{AskedLaws}
use Rattle.law_findings.specs.declared.words.TheConstants.{LAWS}
use Rattle.law_findings.specs.declared.words.Law.{Law}
use Rattle.law_findings.specs.declared.words.Law.TheVariants.{Progress, Expiry, Firing, ZeroLag, Budget, Total, Pick, Run, Server}
use Rattle.trace_lines.specs.NoteWords.{is_comma}

abbrev pub law_word : Law → List ℕ
law_word Progress = codes "progress"
law_word Expiry = codes "expiry"
law_word Firing = codes "firing"
law_word ZeroLag = codes "0-lag"
law_word Budget = codes "budget"
law_word Total = codes "total"
law_word Pick = codes "pick"
law_word Run = codes "run"
law_word Server = codes "server"

-- the law of a name
abbrev pub is_name_of : List ℕ → Law → Bool
is_name_of name law = bytes_eq (law_word law) name

abbrev pub law_named : List ℕ → Option Law
law_named name = option_and_then (λ place. slice_get LAWS place) (position (is_name_of name) LAWS)

-- these laws and those of the names, where each name is a law's
abbrev pub asked_by : AskedLaws → List (List ℕ) → Option AskedLaws
asked_by asked [] = Some asked
asked_by asked (name ∷ names) = option_and_then (λ law. asked_by (asked_with asked law) names) (law_named name)

-- the laws that a word asks by names between commas; `none` asks none
abbrev pub asked_in : List ℕ → Option AskedLaws
asked_in word = if bytes_eq word (codes "none") then Some none_asked else asked_by none_asked (slice_split is_comma word)
