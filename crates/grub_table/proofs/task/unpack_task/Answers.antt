use Rattle.std.proofs.Common.{◌∙◌, sym, arith}
use Rattle.grub_table.specs.Words.{TaskFits}
use Rattle.grub_table.proofs.Found.{none_from_found}
use Rattle.grub_table.proofs.Tasks.{word_of, task_not_counted, task_not_placed, task_found}
use Rattle.grub_table.proofs.task.unpack_task.Goals as goal

pub returns-then-count-from-clause-found : goal.returns-then-count-from-clause-found
returns-then-count-from-clause-found c = task_not_counted c.args.word (omega arith)

pub returns-then-count-from-clause-none : goal.returns-then-count-from-clause-none
returns-then-count-from-clause-none c =
    none_from_found TaskFits word_of c.args.word _ (returns-then-count-from-clause-found c)

pub returns-in_err-place-clause-found : goal.returns-in_err-place-clause-found
returns-in_err-place-clause-found c =
    rw c.from_residual.ensures (task_not_placed c.args.word
    (λ place fits s r. let e = (c.place_of.ensures place).1 (fits, s ∙ sym c.field.ensures, r ∙ sym c.field-2.ensures) in let f = c.in_err-place.was in cc))

pub returns-in_err-place-clause-none : goal.returns-in_err-place-clause-none
returns-in_err-place-clause-none c =
    none_from_found TaskFits word_of c.args.word _ (returns-in_err-place-clause-found c)

pub returns-clause-found : goal.returns-clause-found
returns-clause-found c =
    let is = (c.place_of.ensures c.in_ok-place.place).0 c.in_ok-place.was in
    task_found c.args.word c.in_ok-place.place c.field-3.result is.0 (is.1 ∙ c.field.ensures) (is.2 ∙ c.field-2.ensures) c.field-3.ensures (omega arith)

pub returns-clause-none : goal.returns-clause-none
returns-clause-none c =
    none_from_found TaskFits word_of c.args.word _ (returns-clause-found c)
