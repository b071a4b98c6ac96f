use Rattle.std.proofs.Common.{◌≡◌, sym, ◌∙◌, length, [], eqb-true}
use Rattle.std.proofs.lemmas.List.{nil_from_length}
use Rattle.probe_explain.proofs.Taking.{ended, same}
use Rattle.probe_explain.proofs.play.Play.end.Goals as goal

pub returns-then-is_empty-2-clause-all : goal.returns-then-is_empty-2-clause-all
returns-then-is_empty-2-clause-all c =
    let w = c.args.self.now.waiting in
    let read = c.claims.result.now in
    let none : w.items ≡ [] = nil_from_length w.items (sym w.ok.0 ∙ eqb-true w.len 0 (sym c.is_empty.ensures ∙ c.if-is_empty.true)) in
    let met : read ≡ [] = nil_from_length read (eqb-true (length read) 0 (sym c.is_empty-then-is_empty.ensures ∙ c.if-is_empty-2.true)) in
    ended c.args.self.now none (sym c.claims.ensures ∙ met)

pub returns-then-is_empty-2-clause-same : goal.returns-then-is_empty-2-clause-same
returns-then-is_empty-2-clause-same c = same c.args.self.now
