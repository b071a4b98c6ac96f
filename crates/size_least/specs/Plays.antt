-- Plays of a record's jobs by the server of a task, whatever else runs.
use Rattle.std.specs.Prelude.{◌≡◌, ℕ, ◌+◌, ◌-◌, ◌*◌, ◌^◌, ◌<◌, ◌≤◌, max, true, List, [], ◌∷◌, ◌++◌, sum_by, Some, ◌⊎◌}
use Rattle.grub_book.specs.Bandwidth.{Reservation}
use Rattle.grub_book.specs.Server.{fresh_of, woken_of, depleted_of}
use Rattle.grub_book.specs.declared.server.Server.{Server}
use Rattle.size_least.specs.Jobs.{is_done_by}
use Rattle.size_least.specs.Span.{budgets_of}
use Rattle.size_least.specs.declared.job.Job.{Job}

-- the task runs for some time up to a moment, and pays of its budget
pub record Run : Type 0 where
  pub took : ℕ
  pub paid : ℕ
  pub end : ℕ

-- A run from a moment on: it pays at most what it took (with reclaiming less), within one budget, and what is left of the budget can be had by the deadline. Used up, the budget is refilled, and the deadline postponed.
pub record Runs (p : Reservation) (s : Server) (m : ℕ) (r : Run) (t : Server) : Type 0 where
  pub some : 1 ≤ r.took
  pub pays : r.paid ≤ r.took
  pub within : r.paid ≤ s.q
  pub takes : m + r.took ≤ r.end
  pub had : r.end + (s.q - r.paid) ≤ s.d
  pub count : ℕ
  pub refilled : depleted_of s p r.paid ≡ Some (count, t)

-- runs one after the other, from a server at a moment to another at its end
abbrev pub Follow : Reservation → List Run → Server → ℕ → Server → ℕ → Type 0
Follow p [] s m u end = (u ≡ s) × (end ≡ m)
Follow p (r ∷ rs) s m u end = (t : Server) × (step : Runs p s m r t) × Follow p rs t r.end u end

-- a release that finds the task blocked wakes it; one that finds it in its job before is taken behind that
abbrev pub Begins : Reservation → Server → ℕ → Job → Server → Type 0
Begins p s m job t = ((m ≤ job.release) × (t ≡ woken_of s p job.release)) ⊎ ((job.release ≤ m) × (t ≡ s))

-- a job, from a server that begins it: its runs are its work
pub record Does (p : Reservation) (t : Server) (m : ℕ) (job : Job) (rs : List Run) (u : Server) (end : ℕ) : Type 0 where
  pub some : 1 ≤ job.work
  pub work : sum_by (λ (r : Run). r.took) rs ≡ job.work
  pub runs : Follow p rs t (max m job.release) u end

-- the jobs one after the other, behind a job that ended at a moment; `ends` are the moments at which they end
abbrev pub Plays : Reservation → List Job → List (List Run) → Server → ℕ → List ℕ → Type 0
Plays p [] runs s m ends = ends ≡ []
Plays p (job ∷ jobs) [] s m ends = ⊥
Plays p (job ∷ jobs) (rs ∷ runs) s m [] = ⊥
Plays p (job ∷ jobs) (rs ∷ runs) s m (end ∷ ends) =
    (t : Server) × (u : Server) × (begins : Begins p s m job t) × (does : Does p t m job rs u end) × Plays p jobs runs u end ends

-- a play from a job on that wakes a task that is new
abbrev pub PlaysFresh : Reservation → List Job → List (List Run) → List ℕ → Type 0
PlaysFresh p [] runs ends = ends ≡ []
PlaysFresh p (job ∷ jobs) [] ends = ⊥
PlaysFresh p (job ∷ jobs) (rs ∷ runs) [] = ⊥
PlaysFresh p (job ∷ jobs) (rs ∷ runs) (end ∷ ends) =
    (u : Server) × (does : Does p (woken_of (fresh_of p) p job.release) 0 job rs u end) × Plays p jobs runs u end ends

-- each job that is in time ends by its due moment, where `past` are the jobs before them, the newest first
abbrev pub EndInTime : Reservation → List Job → List Job → List ℕ → Type 0
EndInTime p past [] ends = Unit {0}
EndInTime p past (job ∷ jobs) [] = Unit {0}
EndInTime p past (job ∷ jobs) (end ∷ ends) =
    (is_done_by p.runtime p.period job.due 0 (job ∷ past) ≡ true → end ≤ job.due) × EndInTime p (job ∷ past) jobs ends

-- jobs behind those before them, the newest first
abbrev pub onto : List Job → List Job → List Job
onto [] past = past
onto (job ∷ jobs) past = onto jobs (job ∷ past)

-- a play from each of the jobs on, the newest first, keeps its deadlines below 2^32; `after` is the work behind them
abbrev pub HaveRoom : Reservation → ℕ → List Job → Type 0
HaveRoom p after [] = Unit {0}
HaveRoom p after (job ∷ past) =
    (job.release + (budgets_of (job.work + after) p.runtime + 1) * p.period < 2 ^ 32) × HaveRoom p (job.work + after) past

-- some play of the last of these jobs, which stand the newest first, ends after a moment
pub record EndsLate (p : Reservation) (due : ℕ) (past : List Job) : Type 0 where
  pub before : List Job
  pub jobs : List Job
  pub are : onto jobs before ≡ past
  pub runs : List (List Run)
  pub ends : List ℕ
  pub end : ℕ
  pub plays : PlaysFresh p jobs runs (ends ++ end ∷ [])
  pub late : due < end
