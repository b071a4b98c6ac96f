use Rattle.std.specs.Prelude.{decimal, [], ◌∷◌}
use Rattle.grub_views.specs.Rows.{answer_numbers, answer_word, arg_field, ask_word, number_fields, step_row, task_field}
use Rattle.grub_views.proofs.Rowing.{whole_row}
use Rattle.grub_views.proofs.row.append_step.Goals as goal

pub returns-clause-text : goal.returns-clause-text
unfolding step_row
returns-clause-text c =
    let x = c.args.step.now in
    let entry = x.told.entry in
    rw (c.append.ensures.text, c.append_number-2.ensures.text, c.append_number.ensures.text, c.append_numbers.ensures.text, c.append_asked.ensures.text, c.numbers_of.ensures, c.from.ensures, c.from-2.ensures)
    (whole_row c.args.out.now.items (decimal entry.m)
    (decimal x.queue ∷ ask_word entry.ask ∷ task_field c.args.plan.now.names entry.ask ∷ arg_field entry.ask ∷ answer_word entry.answer ∷ [])
    (number_fields (answer_numbers entry.answer)) (decimal x.reading.running) (decimal x.reading.this))
