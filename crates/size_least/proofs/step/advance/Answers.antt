use Rattle.std.proofs.Common.{refl, sym, ◌∙◌, arith}
use Rattle.std.proofs.lemmas.Nat.{mod_below}
use Rattle.size_least.proofs.Walk.{AreTurning-none, IsKept-beyond, beyond-answers, turning-answers, turning-can-pass, turning-kept, turning-next, turning-room, turning-shorter}
use Rattle.size_least.proofs.step.advance.Goals as goal

pub loop-renewals-init : goal.loop-renewals-init
loop-renewals-init c = AreTurning-none _ _ _ _ c.requires.kept

pub turn-requires : goal.turn-requires
turn-requires c =
    let below = mod_below c.args.work c.from-budget.result (omega (arith, c.from-budget.ensures, c.requires.some)) in
    turning-room _ _ _ _ _ _ _ _ c.loop-renewals.invariant c.from-budget.ensures c.from-gap.ensures below c.ranges.runtime.fits
    (sym c.is_beyond.ensures ∙ c.if-is_beyond.false) (sym c.has_less.ensures ∙ c.loop-renewals-test.true)

pub loop-renewals-preserved : goal.loop-renewals-preserved
loop-renewals-preserved c =
    let below = mod_below c.args.work c.from-budget.result (omega (arith, c.from-budget.ensures, c.requires.some)) in
    turning-next _ _ _ _ _ _ _ _ c.loop-renewals.invariant c.requires.some c.from-budget.ensures c.from-gap.ensures below
    (sym c.has_less.ensures ∙ c.loop-renewals-test.true) c.in_ok-turn.ensures

pub loop-renewals-smaller : goal.loop-renewals-smaller
loop-renewals-smaller c =
    let below = mod_below c.args.work c.from-budget.result (omega (arith, c.from-budget.ensures, c.requires.some)) in
    turning-shorter c.args.runtime _ _ _ _ _ c.from-budget.ensures below (sym c.has_less.ensures ∙ c.loop-renewals-test.true) c.in_ok-turn.ensures

pub pass-requires : goal.pass-requires
pass-requires c =
    turning-can-pass _ _ _ _ _ _ _ c.loop-renewals.invariant c.from-gap.ensures
    (sym c.is_beyond.ensures ∙ c.if-is_beyond.false) (sym c.has_less.ensures ∙ c.loop-renewals-test.false)

pub returns-clause-kept : goal.returns-clause-kept
returns-clause-kept c =
    turning-kept _ _ _ _ _ _ _ _ c.loop-renewals.invariant c.from-gap.ensures
    (sym c.is_beyond.ensures ∙ c.if-is_beyond.false) (sym c.has_less.ensures ∙ c.loop-renewals-test.false) c.pass.ensures

pub returns-clause-answers : goal.returns-clause-answers
returns-clause-answers c = λ past will.
    turning-answers _ _ _ _ _ _ _ _ _ _ past c.loop-renewals.invariant c.requires.some c.from-budget.ensures c.from-gap.ensures
    (sym c.is_beyond.ensures ∙ c.if-is_beyond.false) (sym c.has_less.ensures ∙ c.loop-renewals-test.false) c.pass.ensures refl c.time_of-time.ensures will

pub returns-then-is_beyond-clause-kept : goal.returns-then-is_beyond-clause-kept
returns-then-is_beyond-clause-kept c = rw c.in_ok-replace_all.ensures (IsKept-beyond _ _ c.requires.some)

pub returns-then-is_beyond-clause-answers : goal.returns-then-is_beyond-clause-answers
returns-then-is_beyond-clause-answers c = λ past will.
    beyond-answers _ _ _ _ _ _ _ _ past c.requires.some c.ranges.period.fits c.requires.one c.requires.kept c.from-budget.ensures c.from-gap.ensures
    (sym c.is_beyond.ensures ∙ c.if-is_beyond.true) c.in_ok-replace_all.ensures c.time_of-time.ensures will
