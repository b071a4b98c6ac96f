use Rattle.probe_run.proofs.Locks.{lock_is}
use Rattle.probe_run.proofs.run.Run.lock.Goals as goal

pub returns-clause-state : goal.returns-clause-state
returns-clause-state c = λ plain.
    lock_is _ _ _ _ _ _ _ _ _ c.actor-actor.ensures (c.lock_by-done.ensures.unchanged plain) c.in_ok-keep_locked.ensures.state c.in_ok-change_and_share.ensures.state
