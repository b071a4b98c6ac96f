use Rattle.size_least.proofs.Monotone.{span-fall, done-more, late_of-fall}
use Rattle.size_least.proofs.laws.more_runtime_is_never_later.Goals as goal

pub returns-clause-span : goal.returns-clause-span
returns-clause-span c = span-fall

pub returns-clause-in_time : goal.returns-clause-in_time
returns-clause-in_time c = λ q r period due past. done-more q r period due 0 past

pub returns-clause-late : goal.returns-clause-late
returns-clause-late c = late_of-fall
