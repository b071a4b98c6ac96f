use Rattle.std.proofs.Common.{◌∙◌, Some, ap, sym, subst}
use Rattle.std.proofs.lemmas.Result.{err_from_is_err_and}
use Rattle.grub_trace.specs.inside.Reading.{Faults, at_line, declarations, form_view, of_file, opened, take_option}
use Rattle.grub_trace.proofs.HeadLaws.{tasks_next}
use Rattle.grub_trace.proofs.LineLemmas.{stops}
use Rattle.grub_trace.proofs.head.read_tasks.Goals as goal

pub returns-in_err-declare-clause-gives : goal.returns-in_err-declare-clause-gives
returns-in_err-declare-clause-gives c =
    let p = err_from_is_err_and c.from_residual.result c.from_residual.ensures.1 in
    let r = opened c.args.version (declarations c.loop-line.tasks) in
    let form = sym (ap (λ f. Some (form_view f)) c.in-Some-Task.field-0-is) ∙ c.in-Some-Task.ensures.form in
    let taken = subst (λ o. Faults c.in_err-declare.field-0.0 (of_file c.args.file (at_line c.loop-line.first (take_option r o)))) form (c.in_err-declare.ensures.takes c.args.version) in
    rw (p.1, p.2) (stops c.in_err-declare.field-0.0 c.args.file r c.loop-line.first c.loop-line.rest.now c.in-Some.line.now c.in-Some.after.now _ c.in-Some.ensures.parts taken c.loop-line.invariant.so_far)

pub loop-line-preserved : goal.loop-line-preserved
loop-line-preserved c =
    let form = sym (ap (λ f. Some (form_view f)) c.in-Some-Task.field-0-is) ∙ c.in-Some-Task.ensures.form in
    tasks_next c.args.version (declarations c.args.tasks.now) c.loop-line.tasks c.declare.new.tasks c.loop-line.first c.loop-line.rest.now c.args.text.now c.in-Some.line.now c.in-Some.after.now c.in-Some-Task.name.now c.in-Some-Task.runtime.now c.in-Some-Task.period.now
    c.in-Some.ensures.parts c.in-Some.ensures.len form (c.in_ok-declare.ensures.takes c.args.version) (c.in_ok-declare.ensures.indexed (λ x. absurd cc)) c.loop-line.invariant
