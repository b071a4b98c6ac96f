use Rattle.grub_book.proofs.Claims.{refused_outside, settled_under, outside_same}
use Rattle.grub_book.proofs.laws.replies_tell_of_claims.Goals as goal

pub returns-clause-refusal : goal.returns-clause-refusal
returns-clause-refusal c = refused_outside

pub returns-clause-settle : goal.returns-clause-settle
returns-clause-settle c = λ x queue now op. settled_under queue now x op

pub returns-clause-step : goal.returns-clause-step
returns-clause-step c = outside_same
