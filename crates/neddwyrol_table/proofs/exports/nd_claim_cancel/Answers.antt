use Rattle.std.proofs.Common.{◌∙◌, sym, ap}
use Rattle.neddwyrol_table.specs.declared.held.Held.{Held}
use Rattle.neddwyrol_table.proofs.Empty.{nowhere}
use Rattle.neddwyrol_table.proofs.exports.nd_claim_cancel.Goals as goal

pub returns-in-Ok-clause-given : goal.returns-in-Ok-clause-given
returns-in-Ok-clause-given c = λ there x l before after.
    c.cancel.ensures.given x l (ap (λ (h : Held). h.taken) (c.as_mut.ensures.value ∙ c.in-Ok.ensures.held.0) ∙ before)
    (ap (λ (h : Held). h.kept) (sym c.of_box.ensures.1) ∙ after)

pub returns-in-Ok-clause-empty : goal.returns-in-Ok-clause-empty
returns-in-Ok-clause-empty c = λ empty. absurd (nowhere c.args.claim.pass.at empty c.in-Ok.ensures.held.1)
