use Rattle.std.proofs.Common.{◌∙◌, sym, ap}
use Rattle.neddwyrol_table.specs.declared.held.Held.{Held}
use Rattle.neddwyrol_table.proofs.Empty.{nowhere}
use Rattle.neddwyrol_table.proofs.exports.nd_pass_start.Goals as goal

pub returns-then-reply-eq-HELD-clause-taken : goal.returns-then-reply-eq-HELD-clause-taken
returns-then-reply-eq-HELD-clause-taken c = λ holds k x before after.
    c.start-reply.ensures.taken holds k x (ap (λ (h : Held). h.kept) (c.as_mut.ensures.value ∙ c.in-Ok.ensures.held.0) ∙ before)
    (ap (λ (h : Held). h.taken) (sym c.of_box-now.ensures.1) ∙ after)

pub returns-else-reply-eq-HELD-clause-told : goal.returns-else-reply-eq-HELD-clause-told
returns-else-reply-eq-HELD-clause-told c = λ told there k l before after.
    c.start-reply.ensures.told told k l (ap (λ (h : Held). h.kept) (c.as_mut.ensures.value ∙ c.in-Ok.ensures.held.0) ∙ before)
    (ap (λ (h : Held). h.kept) (sym c.of_box-now.ensures.1) ∙ after)

pub returns-in-Err-clause-told : goal.returns-in-Err-clause-told
returns-in-Err-clause-told c = λ told. λ there. absurd (nowhere c.args.pass.at c.in-Err.ensures.empty.1 there)
