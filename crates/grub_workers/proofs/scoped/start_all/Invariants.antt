use Rattle.std.proofs.Common.{◌≡◌, ℕ, ◌+◌, ◌<◌, ◌≤◌, length, get_or, vec_items, vec_len, vec_capacity, None}
use Rattle.std.specs.Vec.Iter.{into_iter_items, into_iter_len}
use Rattle.grub_table.specs.Calls.{IsNew}
use Rattle.grub_workers.specs.inside.Handles.{IsOf}
use Rattle.grub_workers.proofs.scoped.start_all.Given as goal

-- the handles are those of the first workers, and the passes that are left are the next ones
abbrev pub invariant-loop-pass : goal.invariant-loop-pass
invariant-loop-pass g l =
    let done = vec_len l.handles in let rest = l.pass-iterator in
    (done + into_iter_len rest ≡ length l.work.plan.now.scripts)
    × (length l.work.plan.now.scripts ≤ vec_capacity l.handles)
    × (l.refusal ≡ None)
    × ((k : ℕ) (d : _) → k < into_iter_len rest → IsNew l.work.table.now (done + k) (get_or (into_iter_items rest) k d))
    × ((k : ℕ) (d : _) → k < done → IsOf l.work.table.now l.work.attempts.tries l.work.plan.now.scripts k (get_or (vec_items l.handles) k d).promise)
