use Rattle.library_book.proofs.Replaying.{replayed_more, replayed_no_more}
use Rattle.library_book.proofs.checker.check.Goals as goal

pub returns-then-not-follows-clause-stops : goal.returns-then-not-follows-clause-stops
returns-then-not-follows-clause-stops c =
    λ s book inside.
    let was = c.loop-i.invariant s book in
    replayed_no_more s _ c.args.events.now c.loop-i.i _ c.loop-i-test.true c.loop-i.tasks c.loop-i.queues was (c.follows.ensures.no s was.book c.if-not-follows.true)

pub loop-i-preserved : goal.loop-i-preserved
loop-i-preserved c =
    λ s book.
    let was = c.loop-i.invariant s book in
    let yes = c.follows.ensures.yes s was.book c.if-not-follows.false in
    replayed_more s _ c.args.events.now c.loop-i.i _ c.loop-i-test.true c.loop-i.tasks c.loop-i.queues was _ _ (c.follows.ensures.book s was.book) yes.0 yes.1
