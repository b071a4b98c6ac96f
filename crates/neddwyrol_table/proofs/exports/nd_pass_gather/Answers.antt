use Rattle.std.proofs.Common.{◌∙◌, sym, ap}
use Rattle.neddwyrol_table.specs.declared.held.Held.{Held}
use Rattle.neddwyrol_table.proofs.Empty.{not_both}
use Rattle.neddwyrol_table.proofs.exports.nd_pass_gather.Goals as goal

pub returns-else-code-ne-DONE-clause-done : goal.returns-else-code-ne-DONE-clause-done
returns-else-code-ne-DONE-clause-done c = λ done k l m one other after.
    c.gather-code.ensures.done done k l m (ap (λ (h : Held). h.kept) (c.as_mut.ensures.value ∙ c.in-Ok.ensures.held.0) ∙ one)
    (ap (λ (h : Held). h.kept) (c.as_mut-in-Ok.ensures.value ∙ c.in-Ok.ensures.held.1) ∙ other)
    (ap (λ (h : Held). h.kept) (sym c.of_box.ensures.1) ∙ after)

pub returns-in-Err-clause-first : goal.returns-in-Err-clause-first
returns-in-Err-clause-first c = λ one other. absurd (not_both c.args.first.at c.args.second.at c.in-Err.ensures.empty one other)

pub returns-in-Err-clause-kept : goal.returns-in-Err-clause-kept
returns-in-Err-clause-kept c = λ refused one other. absurd (not_both c.args.first.at c.args.second.at c.in-Err.ensures.empty one other)

pub returns-in-Err-clause-second : goal.returns-in-Err-clause-second
returns-in-Err-clause-second c = λ refused one other. absurd (not_both c.args.first.at c.args.second.at c.in-Err.ensures.empty one other)
