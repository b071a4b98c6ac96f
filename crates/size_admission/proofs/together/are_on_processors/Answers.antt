use Rattle.std.proofs.Common.{All, List, ◌<◌, subst}
use Rattle.std.proofs.lemmas.List.{take_all}
use Rattle.std.proofs.lemmas.List.Elements.{All-more}
use Rattle.size_admission.specs.declared.together.Placed.{Placed}
use Rattle.size_admission.proofs.together.are_on_processors.Goals as goal

pub loop-one-preserved : goal.loop-one-preserved
loop-one-preserved c = All-more (λ one. one.processor < c.args.processors) c.args.placed.now c.loop-one.one-index _ c.loop-one-test.true c.loop-one.invariant c.if-one-processors.false

pub returns : goal.returns
returns c = λ is. subst (λ (xs : List Placed). All (λ one. one.processor < c.args.processors) xs) (take_all c.loop-one.one-index c.args.placed.now c.loop-one-test.false) c.loop-one.invariant
