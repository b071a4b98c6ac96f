use Rattle.std.proofs.Common.{◌≡◌, ℕ, ◌+◌, ◌<◌, ◌≤◌, length, get_or, vec_items, vec_len, vec_capacity, None}
use Rattle.std.specs.Vec.Iter.{into_iter_items, into_iter_len}
use Rattle.grub_plan.specs.Plans.{script_at}
use Rattle.grub_workers.specs.inside.Handles.{IsOf}
use Rattle.grub_workers.specs.inside.Working.{IsWorked}
use Rattle.grub_workers.proofs.scoped.join_all.Given as goal

-- as long as all went well, the results are those of the first workers, and the handles that are left are of the next ones
abbrev pub invariant-loop-handle : goal.invariant-loop-handle
invariant-loop-handle g l =
    let done = vec_len l.passes in let rest = l.handle-iterator in let scripts = l._plan.scripts in
    (vec_len l.reports ≡ done)
    × (done + into_iter_len rest ≤ vec_capacity l.passes)
    × (done + into_iter_len rest ≤ vec_capacity l.reports)
    × (l.fault ≡ None → done + into_iter_len rest ≡ length scripts)
    × (l.fault ≡ None → (k : ℕ) (d : _) → k < into_iter_len rest → IsOf l._table l._tries scripts (done + k) (get_or (into_iter_items rest) k d).promise)
    × (l.fault ≡ None → (k : ℕ) (p : _) (r : _) → k < done → IsWorked l._table l._tries k (script_at scripts k) (get_or (vec_items l.passes) k p) (get_or (vec_items l.reports) k r).entries.items)
