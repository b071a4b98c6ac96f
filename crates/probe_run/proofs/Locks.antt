-- A function that has its lock.
use Rattle.std.proofs.Common.{◌≡◌, ℕ, refl, ap, sym, ◌∙◌}
use Rattle.kernel_rules.specs.declared.delays.Delayed.{Delayed}
use Rattle.kernel_rules.specs.declared.delays.Locked.{Locked}
use Rattle.kernel_rules.specs.Later.{locked_of}
use Rattle.probe_findings.specs.declared.words.ProbedLine.{ProbedLine}
use Rattle.probe_run.specs.declared.actor.Actor.{Actor}
use Rattle.probe_run.specs.State.{State, actor_at}
use Rattle.probe_run.specs.Moves.{kept_locked, changed_and_shared, locked_by}

pub lock_is : (old mid new : State) (place : ProbedLine) (cpu n : ℕ) (d : Delayed) (a : Actor) (done : Locked)
    → a ≡ actor_at old n → done ≡ locked_of a.entity d → mid ≡ kept_locked old cpu n a d done.entity → new ≡ changed_and_shared mid place cpu a.cpu done.change
    → new ≡ locked_by old place cpu n d
lock_is old mid new place cpu n d a done found made kept changed =
    changed ∙ ap (λ m. changed_and_shared m place cpu a.cpu done.change) kept
    ∙ ap (λ l. changed_and_shared (kept_locked old cpu n a d l.entity) place cpu a.cpu l.change) made
    ∙ ap (λ b. let l = locked_of b.entity d in changed_and_shared (kept_locked old cpu n b d l.entity) place cpu b.cpu l.change) found
