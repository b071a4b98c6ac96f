-- What runtime a job needs in each period.
use Rattle.std.specs.Prelude.{ℕ, ◌+◌, ◌-◌, ◌/◌, ◌<◌, min, max, nat_lt, ◌==◌, List, [], ◌∷◌, if◌then◌else◌}
use Rattle.size_least.specs.Span.{budgets_of}
use Rattle.size_least.specs.declared.job.Job.{Job}

-- The least runtime with which work of 1 or more, from a renewal on, is done within a time; more than the period where none is enough. So many whole periods are in that time: the work is done in as many budgets, or in one more that is begun early enough.
unfoldable pub need_of : ℕ → ℕ → ℕ → ℕ
need_of period window work =
    let whole = window / period in
    let early = period - (window - work) / (whole + 1) in
    if nat_lt window work then period + 1 else max 1 (if whole == 0 then early else min (budgets_of work whole) early)

-- that of work from a release up to a due moment
abbrev pub need_by : ℕ → ℕ → ℕ → ℕ → ℕ
need_by period due release work = if nat_lt due release then period + 1 else need_of period (due - release) work

-- the need of a job, where `past` are the jobs up to it, the newest first, and `after` is the work behind them
abbrev pub need_after : ℕ → ℕ → ℕ → List Job → ℕ
need_after period due after [] = 1
need_after period due after (job ∷ past) = max (need_by period due job.release (job.work + after)) (need_after period due (job.work + after) past)

-- the needs of the jobs of a record, where `past` are those before them
abbrev pub needs_after : ℕ → List Job → List Job → List ℕ
needs_after period past [] = []
needs_after period past (job ∷ jobs) = need_after period job.due 0 (job ∷ past) ∷ needs_after period (job ∷ past) jobs

-- every job has work
abbrev pub AllWork : List Job → Type 0
AllWork [] = Unit {0}
AllWork (job ∷ jobs) = (0 < job.work) × AllWork jobs
