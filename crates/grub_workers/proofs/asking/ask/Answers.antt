use Rattle.std.proofs.Common.{subst}
use Rattle.grub_table.specs.Calls.{IsTaken}
use Rattle.grub_workers.proofs.BetweenRounds.{HasLost, IsFree, IsTurn}
use Rattle.grub_workers.proofs.Rounds.{busy_round, done_round, done_waits, gave_up_lost, holds_left, holds_taken, lost_round}
use Rattle.grub_workers.proofs.asking.ask.Goals as goal
use Rattle.grub_workers.proofs.asking.ask.Goals.{After-finish, in-Free+in-Held-start, in-Held}

-- the claim of a round, which took the task now or has it of the round before
claim_taken : (g : _) (c : After-finish g) → IsTaken c.args.desk.now.table.now c.args.pass c.args.t c.args.op c.match-turn.claim
claim_taken g c =
    let a = c.args in let twice = c.passes_learn_on.ensures.twice in let s = a.desk.now.table.now in let tries = a.desk.now.tries in elim c.match-turn.branch [
      | in-Free+in-Held-start w ↦ holds_taken twice s a.pass a.t a.op tries c.loop.counter _ _ _ _ w.in-Free.is c.loop.invariant w.in-Held-start.ensures w.claim-is
      | in-Held w ↦ holds_left twice s a.pass a.t a.op tries c.loop.counter _ _ _ w.in-Held.is c.loop.invariant w.claim-is
    ]

pub loop-preserved-in-Busy : goal.loop-preserved-in-Busy
loop-preserved-in-Busy g c =
    let a = c.args in let twice = c.passes_learn_on.ensures.twice in let s = a.desk.now.table.now in
    let free : IsFree s c.loop.counter a.pass a.t c.in-Free.pass = subst (IsTurn s a.desk.now.tries c.loop.counter a.pass a.t a.op) c.in-Free.is c.loop.invariant in
    busy_round twice s a.pass a.t a.op c.loop.counter c.in-Free.pass c.in-Busy.pass c.in-Busy.field-1 free c.in-Busy.ensures

pub returns-in-Done-clause-asked : goal.returns-in-Done-clause-asked
returns-in-Done-clause-asked g c =
    let a = c.args in let twice = c.passes_learn_on.ensures.twice in let s = a.desk.now.table.now in let tries = a.desk.now.tries in
    done_round twice s a.pass a.t a.op tries tries c.match-turn.claim c.in-Done.pass c.in-Done.reply (claim_taken g (goal.at.returns-in-Done-clause-asked g c).After-finish) c.in-Done.ensures

pub returns-in-Done-clause-waits : goal.returns-in-Done-clause-waits
returns-in-Done-clause-waits g c =
    let a = c.args in let twice = c.passes_learn_on.ensures.twice in let s = a.desk.now.table.now in let tries = a.desk.now.tries in
    done_waits twice s a.pass a.t a.op tries c.match-turn.claim c.in-Done.pass c.in-Done.reply (claim_taken g (goal.at.returns-in-Done-clause-waits g c).After-finish) c.in-Done.ensures

pub loop-preserved : goal.loop-preserved
loop-preserved g c =
    let a = c.args in let twice = c.passes_learn_on.ensures.twice in let s = a.desk.now.table.now in let tries = a.desk.now.tries in
    lost_round twice s a.pass a.t a.op tries c.match-turn.claim c.in-Held-finish.claim (claim_taken g (goal.at.loop-preserved g c).After-finish) c.in-Held-finish.ensures

pub returns-in-Held-turn-clause-asked : goal.returns-in-Held-turn-clause-asked
returns-in-Held-turn-clause-asked g c =
    let a = c.args in let twice = c.passes_learn_on.ensures.twice in let s = a.desk.now.table.now in let tries = a.desk.now.tries in
    let lost : HasLost s tries a.pass a.t a.op c.in-Held-turn.claim = subst (IsTurn s tries c.loop.counter a.pass a.t a.op) c.in-Held-turn.is c.loop.invariant in
    gave_up_lost twice s a.pass a.t a.op tries c.in-Held-turn.claim c.cancel.result lost c.cancel.ensures
