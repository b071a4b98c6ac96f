use Rattle.std.proofs.Common.{◌∙◌, sym, ap}
use Rattle.neddwyrol_table.specs.declared.held.Held.{Held}
use Rattle.neddwyrol_table.proofs.Empty.{not_both}
use Rattle.neddwyrol_table.proofs.exports.nd_pass_meet.Goals as goal

pub returns-in-Ok-clause-met : goal.returns-in-Ok-clause-met
returns-in-Ok-clause-met c = λ first second k l m n one other after again.
    c.meet.ensures.met k l m n (ap (λ (h : Held). h.kept) (c.as_mut.ensures.value ∙ c.in-Ok.ensures.held.0) ∙ one)
    (ap (λ (h : Held). h.kept) (c.as_mut-in-Ok.ensures.value ∙ c.in-Ok.ensures.held.1) ∙ other)
    (ap (λ (h : Held). h.kept) (sym c.of_box.ensures.1) ∙ after)
    (ap (λ (h : Held). h.kept) (sym c.of_box-in-Ok.ensures.1) ∙ again)

pub returns-in-Ok-clause-empty : goal.returns-in-Ok-clause-empty
returns-in-Ok-clause-empty c = λ empty. absurd (not_both c.args.first.at c.args.second.at empty c.in-Ok.ensures.there.0 c.in-Ok.ensures.there.1)

pub returns-in-Err-clause-first : goal.returns-in-Err-clause-first
returns-in-Err-clause-first c = λ one other. absurd (not_both c.args.first.at c.args.second.at c.in-Err.ensures.empty one other)

pub returns-in-Err-clause-second : goal.returns-in-Err-clause-second
returns-in-Err-clause-second c = λ one other. absurd (not_both c.args.first.at c.args.second.at c.in-Err.ensures.empty one other)

pub returns-in-Err-clause-met : goal.returns-in-Err-clause-met
returns-in-Err-clause-met c = λ one other. absurd (not_both c.args.first.at c.args.second.at c.in-Err.ensures.empty one other)
