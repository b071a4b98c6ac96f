-- A line tells of the task of one pid, and its comm is a name.
use Rattle.std.proofs.Common.{◌≡◌, ℕ, Bool, true, false, ◌==◌, if◌then◌else◌, Option, List, nat_eq, refl, ap, ◌∙◌}
use Rattle.std.proofs.lemmas.Bool.{eqb-false, eqb-true}
use Rattle.std.proofs.Math.Path.{fun_ext}
use Rattle.std.specs.HashMap.{get, get_by}
use Rattle.std.specs.Str.{bytes_eq}
use Rattle.trace_fields.specs.declared.shown.Shown.{Shown}
use Rattle.size_jobs.specs.Taking.{Watched, named_with, tasks_of, told_to, watched_in, watched_with}
use Rattle.size_jobs.specs.inside.Keeping.{Takes}
use Rattle.size_jobs.specs.declared.task.JobStep.{JobStep}
use Rattle.size_jobs.specs.declared.task.JobTask.{JobTask}
use Rattle.size_jobs.specs.declared.tasks.JobTasks.{JobTasks}

abbrev kept : (ℕ → Option JobTask) → ℕ → Watched
kept tasks = λ q. watched_in (tasks q)

module _ (pid : ℕ) (comm : List ℕ) (told : JobStep) (old new : ℕ → Option JobTask) (takes : Takes pid comm told old new) where
  own : watched_in (new pid) ≡ watched_with comm told (watched_in (old pid))
  own = rw (takes.phase, takes.comm, takes.jobs) refl

  at : (q : ℕ) (b : Bool) → (q == pid) ≡ b → watched_in (new q) ≡ (if b then watched_with comm told (watched_in (old pid)) else watched_in (old q))
  at q true is = ap (λ (k : ℕ). watched_in (new k)) (eqb-true q pid is) ∙ own
  at q false is = ap watched_in (takes.others q (eqb-false q pid is))

  abbrev shown : ℕ → Watched
  shown = λ q. if q == pid then watched_with comm told (watched_in (old pid)) else watched_in (old q)

  pub takes_told : kept new ≡ shown
  takes_told = fun_ext (λ q. at q (q == pid) refl)

-- a line tells of the task that it shows, whose comm is a name then
pub all_told : (task : Shown (List ℕ)) (told : JobStep) (old mid new : JobTasks) → Takes task.pid task.comm told (get nat_eq old.by_pid) (get nat_eq mid.by_pid) → mid.named ≡ old.named
    → new.by_pid ≡ mid.by_pid → (tasks_of new).named ≡ named_with task (tasks_of mid).named → tasks_of new ≡ told_to task told (tasks_of old)
all_told task told old mid new takes names same named =
    let watched : (tasks_of new).watched ≡ (told_to task told (tasks_of old)).watched =
    ap (λ m. kept (get nat_eq m)) same ∙ takes_told task.pid task.comm told (get nat_eq old.by_pid) (get nat_eq mid.by_pid) takes in
    let both : (tasks_of new).named ≡ (told_to task told (tasks_of old)).named =
    named ∙ ap (λ m. named_with task (λ (c : List ℕ). get_by (λ k. bytes_eq c k.items) m)) names in
    λ i. record { watched = watched i; named = both i }
