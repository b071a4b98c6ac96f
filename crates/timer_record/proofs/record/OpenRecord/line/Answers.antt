use Rattle.std.proofs.Common.{◌≡◌, ◌+◌, ◌≤◌, length, Result, Ok, Err, OnOk, sym, ap, ◌∙◌, subst}
use Rattle.timer_record.specs.Kept.{Kept, kept_of}
use Rattle.timer_record.specs.Passing.{passed_in}
use Rattle.timer_record.specs.Records.{EventLine, kept_with, place_of}
use Rattle.timer_record.proofs.GrowthLemmas.{with_one_more}
use Rattle.timer_record.proofs.record.OpenRecord.line.Goals as goal

on_ok_map : {T E : Type 0} (r : Result T E) (P Q : Type 0) → (P → Q) → OnOk r P → OnOk r Q
on_ok_map (Ok x) P Q f p = f p
on_ok_map (Err e) P Q f p = tt

pub returns-clause-grows : goal.returns-clause-grows
unfolding kept_with
returns-clause-grows c =
    let k : Kept = kept_of c.args.self.now in
    let e : EventLine = record { line = c.args.line; at = c.args.at; cpu = c.args.cpu; pid = c.args.pid; fixed = c.args.fixed } in
    on_ok_map c.pass.result _ _
    (λ is. subst (λ (m : Kept). length m.kept ≤ length k.kept + 1) (sym (is ∙ ap (passed_in (place_of e) e.pid e.fixed) c.in_ok-begin.ensures)) (with_one_more e k))
    c.pass.ensures
