use Rattle.library_book.specs.First.{moment_on}
use Rattle.library_book.proofs.Firsts.{SoFar}
use Rattle.library_book.proofs.first.first.Given as goal

abbrev pub invariant-loop-t : goal.invariant-loop-t
invariant-loop-t l = SoFar (moment_on l.wanted l.queue) l.tasks l.t l.best
