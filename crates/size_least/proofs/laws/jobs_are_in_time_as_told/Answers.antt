use Rattle.std.proofs.Common.{◌≡◌, ℕ, ◌+◌, ◌≤◌, suc, take, sum_by, subst, sym, add-one, arith}
use Rattle.size_least.specs.Span.{span}
use Rattle.size_least.specs.declared.job.Job.{Job}
use Rattle.size_least.proofs.Told.{done-told, told-done}
use Rattle.size_least.proofs.laws.jobs_are_in_time_as_told.Goals as goal

pub returns : goal.returns
returns c = λ q p due past. (
  λ h n job is. let P : ℕ → Type 0 = λ m. job.release + span q p m ≤ due in
      let e : sum_by (λ (j : Job). j.work) (take (n + 1) past) ≡ sum_by (λ (j : Job). j.work) (take (suc n) past) + 0 = rw add-one (omega arith) in
      subst P (sym e) (done-told q p due 0 past h n job is),
  λ h. told-done q p due 0 past (λ n job is. let P : ℕ → Type 0 = λ m. job.release + span q p m ≤ due in
      let e : sum_by (λ (j : Job). j.work) (take (n + 1) past) ≡ sum_by (λ (j : Job). j.work) (take (suc n) past) + 0 = rw add-one (omega arith) in
      subst P e (h n job is)),
)
