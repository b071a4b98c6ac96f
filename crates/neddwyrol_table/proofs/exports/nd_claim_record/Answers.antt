use Rattle.std.proofs.Common.{◌∙◌, refl, sym, ap}
use Rattle.neddwyrol_table.specs.declared.held.Held.{Held}
use Rattle.neddwyrol_table.proofs.Empty.{nowhere}
use Rattle.neddwyrol_table.proofs.exports.nd_claim_record.Goals as goal

pub returns-in-Ok-clause-shown : goal.returns-in-Ok-clause-shown
returns-in-Ok-clause-shown c = λ there. (
  refl,
  λ x y before after.
      c.show.ensures.shown x y (ap (λ (h : Held). h.taken) (c.as_mut.ensures.value ∙ c.in-Ok.ensures.held.0) ∙ before)
      (ap (λ (h : Held). h.taken) (sym c.of_box-now.ensures.1) ∙ after),
)

pub returns-in-Ok-clause-empty : goal.returns-in-Ok-clause-empty
returns-in-Ok-clause-empty c = λ empty. absurd (nowhere c.args.claim.pass.at empty c.in-Ok.ensures.held.1)

pub returns-in-Err-clause-shown : goal.returns-in-Err-clause-shown
returns-in-Err-clause-shown c = λ there. absurd (nowhere c.args.claim.pass.at c.in-Err.ensures.empty.1 there)
