use Rattle.std.proofs.Common.{◌≡◌, Some, arith}
use Rattle.std.specs.Prelude.{slice_get}
use Rattle.std.proofs.lemmas.Grind.{common_steps}
use Rattle.std.proofs.lemmas.Option.{gets}
use Rattle.grub_plan.proofs.PlanLimits.{script_fits}
use Rattle.grub_plan.proofs.plan.Plan.script.Goals as goal

pub returns-clause-limits : goal.returns-clause-limits
returns-clause-limits c =
    let e : slice_get c.args.self.now.scripts c.args.r ≡ Some c.as_slice.result.now = grind (arith, common_steps, gets) in
    script_fits _ c.args.self.now c.args.r c.as_slice.result.now c.self.invariant c.self.view_is e
