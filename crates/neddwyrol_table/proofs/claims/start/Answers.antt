use Rattle.std.proofs.Common.{◌≡◌, Option, IfSome, subst}
use Rattle.neddwyrol_table.specs.Called.{IsBeside}
use Rattle.neddwyrol_table.specs.Claims.{IsTold}
use Rattle.neddwyrol_table.specs.declared.held.Kept.{Kept}
use Rattle.neddwyrol_table.proofs.claims.start.Goals as goal

pub returns-clause-told : goal.returns-clause-told
returns-clause-told c = λ back k l before after.
    let first : c.in-Some.kept ≡ k = cc in
    let told : IsBeside c.in-Some.kept l × IsTold c.args.task c.args.op c.started-now.result.1 c.in-Some.kept l =
    subst (λ (o : Option Kept). IfSome o (λ m. IsBeside c.in-Some.kept m × IsTold c.args.task c.args.op c.started-now.result.1 c.in-Some.kept m)) after c.started-now.ensures.told in
    subst (λ (x : Kept). IsBeside x l × IsTold c.args.task c.args.op c.started-now.result.1 x l) first told
