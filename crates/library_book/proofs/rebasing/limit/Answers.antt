use Rattle.std.proofs.Common.{◌≡◌, get_or, refl, ap, ◌∙◌}
use Rattle.grub_book.specs.Rebase.{bound_of}
use Rattle.grub_book.specs.inside.Standings.{lesser_of}
use Rattle.library_book.specs.Memory.{record_of}
use Rattle.library_book.specs.inside.Moves.{no_task}
use Rattle.library_book.proofs.Rebases.{can_stand, free_end, task_free}
use Rattle.library_book.proofs.rebasing.limit.Goals as goal

pub returns-in_err-held-clause-some : goal.returns-in_err-held-clause-some
returns-in_err-held-clause-some c =
    λ s queues book. absurd (c.in_err-held.ensures.none refl (can_stand s c.args.tasks.now queues book c.loop-task.task-index _ c.loop-task-test.true))

pub loop-task-preserved : goal.loop-task-preserved
loop-task-preserved c =
    λ by few.
    let tasks = c.args.tasks.now in
    let i = c.loop-task.task-index in
    let was = c.loop-task.invariant by few in
    let is : c.lesser-least.result ≡ lesser_of c.loop-task.least (bound_of (record_of (get_or tasks i no_task))) = c.lesser-least.ensures ∙ ap (lesser_of c.loop-task.least) (c.bound.ensures ∙ ap bound_of c.in_ok-held.ensures.some.0) in
    let next = task_free by tasks i no_task c.loop-task-test.true c.loop-task.least in
    rw is (λ free. next.0 (was.0 free), λ free. was.1 (next.1 free))

pub returns-clause-value : goal.returns-clause-value
returns-clause-value c =
    λ s queues book by few.
    let was = c.loop-task.invariant by few in
    let end = free_end by c.args.tasks.now c.loop-task.task-index c.loop-task.least c.loop-task-test.false in
    (λ free. (was.0 free).0, λ within. was.1 (end within))
