use Rattle.std.proofs.Common.{◌∙◌, sym, ap}
use Rattle.neddwyrol_table.specs.declared.held.Held.{Held}
use Rattle.neddwyrol_table.proofs.Empty.{nowhere}
use Rattle.neddwyrol_table.proofs.exports.nd_pass_apply.Goals as goal

pub returns-in-Ok-clause-asked : goal.returns-in-Ok-clause-asked
returns-in-Ok-clause-asked c = λ there k l before after.
    c.call-reply.ensures.asked k l (ap (λ (h : Held). h.kept) (c.as_mut.ensures.value ∙ c.in-Ok.ensures.held.0) ∙ before)
    (ap (λ (h : Held). h.kept) (sym c.of_box.ensures.1) ∙ after)

pub returns-in-Ok-clause-called : goal.returns-in-Ok-clause-called
returns-in-Ok-clause-called c = λ there k l before after.
    c.call-reply.ensures.called k l (ap (λ (h : Held). h.kept) (c.as_mut.ensures.value ∙ c.in-Ok.ensures.held.0) ∙ before)
    (ap (λ (h : Held). h.kept) (sym c.of_box.ensures.1) ∙ after)

pub returns-in-Ok-clause-empty : goal.returns-in-Ok-clause-empty
returns-in-Ok-clause-empty c = λ empty. absurd (nowhere c.args.pass.at empty c.in-Ok.ensures.held.1)

pub returns-in-Err-clause-asked : goal.returns-in-Err-clause-asked
returns-in-Err-clause-asked c = λ there. absurd (nowhere c.args.pass.at c.in-Err.ensures.empty.1 there)

pub returns-in-Err-clause-called : goal.returns-in-Err-clause-called
returns-in-Err-clause-called c = λ there. absurd (nowhere c.args.pass.at c.in-Err.ensures.empty.1 there)
