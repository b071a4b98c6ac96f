use Rattle.library_book.proofs.Moves.{law_granted, law_left, law_reached, law_others}
use Rattle.library_book.proofs.laws.moves_shift_sums.Goals as goal

pub returns-clause-granted : goal.returns-clause-granted
returns-clause-granted c = law_granted

pub returns-clause-left : goal.returns-clause-left
returns-clause-left c = law_left

pub returns-clause-reached : goal.returns-clause-reached
returns-clause-reached c = law_reached

pub returns-clause-others : goal.returns-clause-others
returns-clause-others c = law_others
