use Rattle.std.proofs.Common.{◌∙◌, ap, rules, sym}
use Rattle.grub_trace.specs.inside.Reading.{declarations, of_file}
use Rattle.grub_trace.proofs.HeadLaws.{gives_second}
use Rattle.grub_trace.proofs.LineLemmas.{second_err, placed_err, placed_ok}
use Rattle.std.proofs.lemmas.Result.{err_from_is_err_and}
use Rattle.grub_trace.proofs.OpeningFaults.{second_late, opening_is}
use Rattle.grub_trace.proofs.head.read_second.Goals as goal

pub returns-in_err-queue-clause-gives : goal.returns-in_err-queue-clause-gives
returns-in_err-queue-clause-gives c =
    let p = err_from_is_err_and c.from_residual.result c.from_residual.ensures.1 in
    let m = placed_err c.read_queue.result c.args.file 2 c.in_err-queue.field-0.0 (λ k h. search rules) c.in_err-queue.ensures.cases in
    rw (p.1, p.2, m.2) (ap (of_file c.args.file) (second_err c.args.version (declarations c.args.tasks.now) c.args.text.now c.in-Some.line.now c.in-Some.rest.now m.0 c.in-Some.ensures.parts (sym c.read_queue.ensures ∙ m.1)))

pub returns-in_err-queue-clause-opening : goal.returns-in_err-queue-clause-opening
returns-in_err-queue-clause-opening c =
    let p = err_from_is_err_and c.from_residual.result c.from_residual.ensures.1 in
    let m = placed_err c.read_queue.result c.args.file 2 c.in_err-queue.field-0.0 (λ k h. search rules) c.in_err-queue.ensures.cases in
    rw (p.1, p.2, m.2) (opening_is m.0 c.args.file 2 _ (ap (of_file c.args.file) (second_err c.args.version (declarations c.args.tasks.now) c.args.text.now c.in-Some.line.now c.in-Some.rest.now m.0 c.in-Some.ensures.parts (sym c.read_queue.ensures ∙ m.1))))

pub returns-clause-gives : goal.returns-clause-gives
returns-clause-gives c =
    gives_second c.read_tasks.result c.args.file c.args.version c.in_ok-queue.queue (declarations c.args.tasks.now) (declarations c.read_tasks.new.tasks) c.args.text.now c.in-Some.line.now c.in-Some.rest.now c.in-Some.ensures.parts
    (sym c.read_queue.ensures ∙ placed_ok c.read_queue.result c.in_ok-queue.queue c.in_ok-queue.ensures.cases) c.read_tasks.ensures.head c.read_tasks.ensures.gives

pub returns-clause-opening : goal.returns-clause-opening
returns-clause-opening c =
    second_late c.read_tasks.result c.args.file c.args.version (declarations c.args.tasks.now) c.args.text.now c.in-Some.line.now c.in-Some.rest.now c.in_ok-queue.queue c.in-Some.ensures.parts
    (sym c.read_queue.ensures ∙ placed_ok c.read_queue.result c.in_ok-queue.queue c.in_ok-queue.ensures.cases)
