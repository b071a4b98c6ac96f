use Rattle.std.proofs.Common.{◌∙◌, sym, ap}
use Rattle.neddwyrol_table.specs.declared.held.Held.{Held}
use Rattle.neddwyrol_table.proofs.Empty.{nowhere}
use Rattle.neddwyrol_table.proofs.exports.nd_claim_finish.Goals as goal

pub returns-then-reply-eq-LOST-clause-lost : goal.returns-then-reply-eq-LOST-clause-lost
returns-then-reply-eq-LOST-clause-lost c = λ lost x y before after.
    c.finish-reply.ensures.lost lost x y (ap (λ (h : Held). h.taken) (c.as_mut.ensures.value ∙ c.in-Ok.ensures.held.0) ∙ before)
    (ap (λ (h : Held). h.taken) (sym c.of_box-now.ensures.1) ∙ after)

pub returns-else-reply-eq-LOST-clause-made : goal.returns-else-reply-eq-LOST-clause-made
returns-else-reply-eq-LOST-clause-made c = λ made there x l before after.
    c.finish-reply.ensures.made made x l (ap (λ (h : Held). h.taken) (c.as_mut.ensures.value ∙ c.in-Ok.ensures.held.0) ∙ before)
    (ap (λ (h : Held). h.kept) (sym c.of_box-now.ensures.1) ∙ after)

pub returns-in-Err-clause-stands : goal.returns-in-Err-clause-stands
returns-in-Err-clause-stands c = λ stands. λ there. absurd (nowhere c.args.claim.pass.at c.in-Err.ensures.empty.1 there)

pub returns-in-Err-clause-made : goal.returns-in-Err-clause-made
returns-in-Err-clause-made c = λ made. λ there. absurd (nowhere c.args.claim.pass.at c.in-Err.ensures.empty.1 there)
