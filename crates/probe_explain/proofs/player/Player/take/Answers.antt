use Rattle.std.proofs.Common.{sym, subst}
use Rattle.probe_run.specs.Start.{start_of}
use Rattle.probe_explain.specs.inside.Playing.{HasTaken}
use Rattle.probe_explain.proofs.Taking.{taken_more}
use Rattle.probe_explain.proofs.player.Player.take.Goals as goal

pub invariant_of-self : goal.invariant_of-self
invariant_of-self g c =
    λ h. subst (λ ls. HasTaken c.take.new.self c.self.inside.rules (start_of c.self.inside.start.value) ls) (sym c.and-self-inside.ensures)
    (taken_more _ _ c.args.line.now c.in-Ok.ensures _ _ _ (c.self.invariant h))
