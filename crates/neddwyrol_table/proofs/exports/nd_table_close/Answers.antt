use Rattle.std.proofs.Common.{rules, ◌∙◌, sym, ap, subst, inr, IsSome}
use Rattle.neddwyrol_table.specs.Called.{Stands}
use Rattle.neddwyrol_table.specs.declared.held.Held.{Held}
use Rattle.neddwyrol_table.proofs.Empty.{nowhere}
use Rattle.neddwyrol_table.proofs.exports.nd_table_close.Goals as goal

pub returns-then-is_some-clause-back : goal.returns-then-is_some-clause-back
returns-then-is_some-clause-back c = λ no there.
    let some : IsSome c.close-code.new.held.kept = search rules in
    inr (
      c.of_box.ensures.0,
      subst (λ (h : Held). Stands h) (sym c.of_box.ensures.1) (some, c.close-code.ensures.well),
      λ k l before after. c.close-code.ensures.back k l (ap (λ (h : Held). h.kept) (c.as_mut.ensures.value ∙ c.in-Ok.ensures.held.0) ∙ before)
          (ap (λ (h : Held). h.kept) (sym c.of_box.ensures.1) ∙ after),
    )

pub returns-in-Err-clause-back : goal.returns-in-Err-clause-back
returns-in-Err-clause-back c = λ no there. absurd (nowhere c.args.pass.at c.in-Err.ensures.empty.1 there)
