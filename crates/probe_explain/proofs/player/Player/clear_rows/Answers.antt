use Rattle.probe_explain.proofs.Taking.{taken_still}
use Rattle.probe_explain.proofs.player.Player.clear_rows.Goals as goal

pub invariant_of-self : goal.invariant_of-self
invariant_of-self c = λ h. taken_still _ _ c.clear_rows.ensures.lines _ _ _ (c.self.invariant h)
