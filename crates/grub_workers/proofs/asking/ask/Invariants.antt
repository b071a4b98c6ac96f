use Rattle.grub_workers.proofs.BetweenRounds.{IsTurn}
use Rattle.grub_workers.proofs.asking.ask.Given as goal

abbrev pub invariant-loop : goal.invariant-loop
invariant-loop g l = IsTurn l.desk.table.now l.desk.tries l.counter l.fn.pass l.t l.op l.turn
