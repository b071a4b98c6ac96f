-- The renewals that a walk over the jobs keeps: what each still has of its budget, and until when its work takes at most. They stand in a row, by both.
use Rattle.std.specs.Prelude.{◌≡◌, ℕ, ◌+◌, ◌-◌, ◌*◌, ◌^◌, ◌<◌, ◌≤◌, min, Bool, false, ◌&&◌, ◌||◌, ◌==◌, nat_le, nat_lt, List, [], ◌∷◌, if◌then◌else◌}
use Rattle.std.specs.List.{list_all}
use Rattle.size_least.specs.Span.{budgets_of}
use Rattle.size_least.specs.Jobs.{is_done_by}
use Rattle.size_least.specs.inside.Queue.{latest_of}
use Rattle.size_least.specs.declared.job.Job.{Job}
use Rattle.size_least.specs.declared.renewal.Renewal.{Renewal}

-- the latest moment at which so much more work is done
abbrev pub finish_after : ℕ → ℕ → Renewal → ℕ → ℕ
finish_after runtime period r work = r.finish + work + budgets_of (work - r.left) runtime * (period - runtime)

-- whether from each of the renewals so much more work is done by `due`
abbrev pub all_done_by : ℕ → ℕ → ℕ → ℕ → List Renewal → Bool
all_done_by runtime period due work rs = list_all (λ r. nat_le (finish_after runtime period r work) due) rs

-- whether the first is past a release
abbrev pub is_over : ℕ → List Renewal → Bool
is_over release [] = false
is_over release (r ∷ rs) = nat_le r.finish release

abbrev pub remembered : ℕ → List Renewal → List Renewal
remembered release [] = []
remembered release (r ∷ rs) = if nat_le r.finish release then remembered release rs else r ∷ rs

-- whether one of them takes as long as one at a release or longer, whatever follows
abbrev pub covers : ℕ → ℕ → List Renewal → Bool
covers gap release [] = false
covers gap release (r ∷ rs) =
    ((r.left == 0) && nat_le release r.finish) || nat_le (min (release + gap) 18446744073709551615) (latest_of (r ∷ rs))

-- those that are kept at a release
abbrev pub joined : ℕ → ℕ → List Renewal → List Renewal
joined gap release rs = if covers gap release rs then rs else record { finish = release; left = 0 } ∷ rs

-- whether less than that is left of the first
abbrev pub has_less : ℕ → List Renewal → Bool
has_less used [] = false
has_less used (r ∷ rs) = nat_lt r.left used

-- each is as late as the one before it and has as much left, from so late and so much on
abbrev pub Rises : ℕ → ℕ → List Renewal → Type 0
Rises finish left [] = Unit {0}
Rises finish left (r ∷ rs) = (finish ≤ r.finish) × (left ≤ r.left) × Rises r.finish r.left rs

abbrev pub AreBelow : ℕ → ℕ → List Renewal → Type 0
AreBelow finish left [] = Unit {0}
AreBelow finish left (r ∷ rs) = (r.finish ≤ finish) × (r.left ≤ left) × AreBelow finish left rs

-- they rise, and the first, once it is renewed, may stand at the end
abbrev pub IsRow : ℕ → ℕ → List Renewal → Type 0
IsRow gap runtime [] = Unit {0}
IsRow gap runtime (r ∷ rs) = Rises r.finish r.left rs × AreBelow (r.finish + gap) (r.left + runtime) rs

-- what is left of each budget is less than the runtime
abbrev pub AreWithin : ℕ → List Renewal → Type 0
AreWithin runtime [] = Unit {0}
AreWithin runtime (r ∷ rs) = (r.left < runtime) × AreWithin runtime rs

pub record IsKept (gap runtime : ℕ) (rs : List Renewal) : Type 0 where
  pub row : IsRow gap runtime rs
  pub within : AreWithin runtime rs

-- the renewals kept answer as all jobs so far do
abbrev pub Answers : ℕ → ℕ → List Renewal → List Job → Type 0
Answers runtime period rs past = (due work : ℕ) → due < 2 ^ 63 → all_done_by runtime period due work rs ≡ is_done_by runtime period due work past

-- they do, once the work of the last job is done
abbrev pub WillAnswer : ℕ → ℕ → ℕ → List Renewal → List Job → Type 0
WillAnswer runtime period more rs past = (due work : ℕ) → due < 2 ^ 63 → all_done_by runtime period due (more + work) rs ≡ is_done_by runtime period due work past
