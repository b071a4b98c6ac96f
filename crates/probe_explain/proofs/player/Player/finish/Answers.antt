use Rattle.probe_explain.proofs.Taking.{taken_still, explained_all, so_far}
use Rattle.probe_explain.proofs.player.Player.finish.Goals as goal

pub invariant_of-self : goal.invariant_of-self
invariant_of-self g c = λ h. taken_still _ _ c.in-Ok.ensures.same _ _ _ (c.self.invariant h)

pub returns-in-Ok-clause-all : goal.returns-in-Ok-clause-all
returns-in-Ok-clause-all g c = λ plain none. explained_all _ _ c.in-Ok.ensures.all _ _ _ (c.self.invariant c.if-self.false) plain none

pub returns-in-Ok-clause-so_far : goal.returns-in-Ok-clause-so_far
returns-in-Ok-clause-so_far g c = λ ls more e plain none. so_far _ _ _ ls more (explained_all _ _ c.in-Ok.ensures.all _ _ _ (c.self.invariant c.if-self.false) plain none) e
