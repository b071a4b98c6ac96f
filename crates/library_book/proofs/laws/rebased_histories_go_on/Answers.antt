use Rattle.library_book.proofs.Going.{rebased_recorded}
use Rattle.library_book.proofs.laws.rebased_histories_go_on.Goals as goal

pub returns : goal.returns
returns c = rebased_recorded
