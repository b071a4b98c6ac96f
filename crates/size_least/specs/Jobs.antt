-- Which jobs are in time, from whichever job of the record on it is played.
use Rattle.std.specs.Prelude.{◌≡◌, ℕ, ◌+◌, ◌≤◌, Bool, true, ◌&&◌, nat_le, List, [], ◌∷◌, sum_by, take, slice_get, Some, if◌then◌else◌}
use Rattle.size_least.specs.Span.{span}
use Rattle.size_least.specs.declared.job.Job.{Job}

-- whether what is to be done by `due` is: `past` are the jobs up to it, the newest first, and `after` is the work behind them
abbrev pub is_done_by : ℕ → ℕ → ℕ → ℕ → List Job → Bool
is_done_by runtime period due after [] = true
is_done_by runtime period due after (job ∷ past) =
    nat_le (job.release + span runtime period (job.work + after)) due && is_done_by runtime period due (job.work + after) past

-- the same, as it is told: from each of the jobs on, the work of all up to the newest is done by then
abbrev pub IsDoneBy : ℕ → ℕ → ℕ → List Job → Type 0
IsDoneBy runtime period due past =
    (n : ℕ) (job : Job) → slice_get past n ≡ Some job → job.release + span runtime period (sum_by (λ j. j.work) (take (n + 1) past)) ≤ due

-- how many of the jobs are not in time, where `past` are the jobs before them, the newest first
abbrev pub late_after : ℕ → ℕ → List Job → List Job → ℕ
late_after runtime period past [] = 0
late_after runtime period past (job ∷ jobs) =
    (if is_done_by runtime period job.due 0 (job ∷ past) then 0 else 1) + late_after runtime period (job ∷ past) jobs

-- how many of the jobs of a record are not in time
abbrev pub late_of : ℕ → ℕ → List Job → ℕ
late_of runtime period jobs = late_after runtime period [] jobs

-- for each of the jobs 1 where it is not in time, else 0, where `past` are the jobs before them, the newest first
abbrev pub lates_after : ℕ → ℕ → List Job → List Job → List ℕ
lates_after runtime period past [] = []
lates_after runtime period past (job ∷ jobs) =
    (if is_done_by runtime period job.due 0 (job ∷ past) then 0 else 1) ∷ lates_after runtime period (job ∷ past) jobs
