use Rattle.std.proofs.Common.{◌≡◌, Some, arith}
use Rattle.std.specs.Prelude.{slice_get}
use Rattle.std.proofs.lemmas.Grind.{common_steps}
use Rattle.std.proofs.lemmas.Option.{gets}
use Rattle.grub_plan.proofs.PlanLimits.{name_fits}
use Rattle.grub_plan.proofs.plan.Plan.name.Goals as goal

pub returns-clause-limits : goal.returns-clause-limits
returns-clause-limits c =
    let e : slice_get c.args.self.now.names c.args.t ≡ Some c.as_str.result.now = grind (arith, common_steps, gets) in
    name_fits _ c.args.self.now c.args.t c.as_str.result.now c.self.invariant c.self.view_is e
