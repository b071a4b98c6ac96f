use Rattle.std.proofs.Common.{◌∙◌, sym, ap}
use Rattle.neddwyrol_table.specs.declared.held.Held.{Held}
use Rattle.neddwyrol_table.proofs.Empty.{nowhere}
use Rattle.neddwyrol_table.proofs.Parted.{parted_where_ok}
use Rattle.neddwyrol_table.proofs.exports.nd_pass_part.Goals as goal

pub returns-in-Ok-found-clause-done : goal.returns-in-Ok-found-clause-done
returns-in-Ok-found-clause-done c = λ done k l m before after parted.
    parted_where_ok c.part_of-found.new.held (c.as_mut.ensures.value ∙ c.in-Ok.ensures.held.0) c.in-Ok-found.is c.part_of-found.ensures.done k l m before
    (ap (λ (h : Held). h.kept) (sym c.of_box.ensures.1) ∙ after)
    (ap (λ (h : Held). h.kept) (sym c.of_box-in-Ok-found.ensures.1) ∙ parted)

pub returns-in-Err-clause-kept : goal.returns-in-Err-clause-kept
returns-in-Err-clause-kept c = λ kept. λ there. absurd (nowhere c.args.pass.at c.in-Err.ensures.empty.1 there)
