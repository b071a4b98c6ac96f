use Rattle.std.proofs.Common.{◌∷◌}
use Rattle.size_least.proofs.Walk.{step-kept, step-some, step-answers}
use Rattle.size_least.proofs.step.step.Goals as goal

pub advance-requires-clause-one : goal.advance-requires-clause-one
advance-requires-clause-one c = step-some _ _ _ _ _ c.forget.ensures c.in_ok-join.ensures

pub advance-requires-clause-kept : goal.advance-requires-clause-kept
advance-requires-clause-kept c = step-kept c.args.runtime c.args.period _ _ _ _ _ c.requires.some c.from.ensures c.requires.kept c.forget.ensures c.in_ok-join.ensures

pub returns-clause-answers : goal.returns-clause-answers
returns-clause-answers c = λ past answers.
    c.in_ok-advance.ensures.answers (c.args.job.now ∷ past) (step-answers c.args.runtime c.args.period _ c.args.job.now _ _ _ past c.requires.some c.from.ensures c.requires.kept c.forget.ensures c.in_ok-join.ensures answers)
