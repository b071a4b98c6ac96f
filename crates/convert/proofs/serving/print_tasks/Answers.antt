use Rattle.std.proofs.Common.{refl, sym, ◌∙◌}
use Rattle.convert.proofs.PrintLemmas.{printed}
use Rattle.convert.proofs.serving.print_tasks.Goals as goal

pub returns-clause-done : goal.returns-clause-done
returns-clause-done g c =
    let is = sym c.is_err.ensures.value ∙ c.if-is_err.false in
    (c.deref.result.now, printed c.write_all.result _ _ _ _ _ is c.write_all.ensures.bytes refl c.flush.ensures.bytes)
