use Rattle.std.proofs.Common.{◌∙◌, sym, ap}
use Rattle.neddwyrol_table.specs.declared.held.Held.{Held}
use Rattle.neddwyrol_table.proofs.Empty.{nowhere}
use Rattle.neddwyrol_table.proofs.exports.nd_pass_read.Goals as goal

pub returns-in-Ok-clause-read : goal.returns-in-Ok-clause-read
returns-in-Ok-clause-read c = λ there k l before after.
    c.look-code.ensures.read k l (ap (λ (h : Held). h.kept) (c.as_mut.ensures.value ∙ c.in-Ok.ensures.held.0) ∙ before)
    (ap (λ (h : Held). h.kept) (sym c.of_box.ensures.1) ∙ after)

pub returns-in-Ok-clause-empty : goal.returns-in-Ok-clause-empty
returns-in-Ok-clause-empty c = λ empty. absurd (nowhere c.args.pass.at empty c.in-Ok.ensures.held.1)

pub returns-in-Err-clause-read : goal.returns-in-Err-clause-read
returns-in-Err-clause-read c = λ there. absurd (nowhere c.args.pass.at c.in-Err.ensures.empty.1 there)
