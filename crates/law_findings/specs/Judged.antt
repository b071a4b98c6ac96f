-- What a value makes of the tallies: a law that is not asked is not counted. Where a line stands.
use Rattle.std.specs.Prelude.{◌≡◌, if◌then◌else◌, Option, Some, None, List, [], ◌∷◌, ◌++◌}
use Rattle.trace_data.specs.declared.note.Kernel.{Kernel}
use Rattle.law_findings.specs.Asked.{is_asked}
use Rattle.law_findings.specs.Known.{is_known_in}
use Rattle.law_findings.specs.Tallies.{judged_in}
use Rattle.law_findings.specs.declared.known.Sign.{Sign}
use Rattle.law_findings.specs.declared.judging.Judgement.{Judgement}
use Rattle.law_findings.specs.declared.judging.Judgement.TheVariants.{Holds, Breaks, Known}
use Rattle.law_findings.specs.declared.judging.LawTallies.{LawTallies}
use Rattle.law_findings.specs.declared.words.Breach.{Breach}
use Rattle.law_findings.specs.declared.words.Law.{Law}
use Rattle.law_findings.specs.declared.judged.JudgedLaws.{JudgedLaws}
use Rattle.law_findings.specs.declared.judged.ReadLine.{ReadLine}
use Rattle.law_findings.specs.declared.words.LawLine.{LawLine}
use Rattle.law_findings.specs.declared.words.LineKind.{LineKind}

-- a sign counts where the kernel is known to have the fault
abbrev pub sign_in : Option Kernel → Option Sign → Option Sign
sign_in k None = None
sign_in k (Some sign) = if is_known_in sign k then Some sign else None

abbrev pub breach_in : Option Kernel → Breach → Breach
breach_in k b = record b { sign = sign_in k b.sign }

abbrev pub judged_by : Option Sign → Breach → Judgement
judged_by None b = Breaks b
judged_by (Some sign) b = Known b

abbrev pub judgement_of : Option Kernel → Breach → Judgement
judgement_of k b = judged_by (sign_in k b.sign) (breach_in k b)

abbrev pub held_in : JudgedLaws → Law → LawTallies
held_in p law = if is_asked p.asked law then judged_in p.tallies law Holds else p.tallies

abbrev pub broken_in : JudgedLaws → Breach → LawTallies
broken_in p b = if is_asked p.asked b.law then judged_in p.tallies b.law (judgement_of p.kernel b) else p.tallies

abbrev pub breaches_with : JudgedLaws → Breach → List Breach
breaches_with p b = if is_asked p.asked b.law then (if p.keeps_breaches then p.breaches.items ++ breach_in p.kernel b ∷ [] else p.breaches.items) else p.breaches.items

-- nothing but the tallies and the breaches changes
abbrev pub OnlyTells : JudgedLaws → JudgedLaws → Type 0
OnlyTells old new = new ≡ record old { tallies = new.tallies; breaches = new.breaches }

-- two values that keep a law
abbrev pub held_twice : JudgedLaws → Law → LawTallies
held_twice p law = if is_asked p.asked law then judged_in (judged_in p.tallies law Holds) law Holds else p.tallies

abbrev pub place_of : ReadLine → LineKind → LawLine
place_of r kind = record { line = r.line; at = r.at; cpu = r.cpu; kind = kind }
