use Rattle.std.proofs.Common.{◌≡◌, ◌<◌, length, arith}
use Rattle.grub_book.specs.Machine.{task_at}
use Rattle.grub_table.proofs.Openings.{copied_more}
use Rattle.grub_table.proofs.opening.copied_tasks.Goals as goal

pub loop-t-preserved : goal.loop-t-preserved
loop-t-preserved c =
    let s = c.args.setup.now in
    let t = c.loop-t.t in
    let count = c.task_count-t-end.ensures.value in
    let test = c.loop-t-test.true in
    let here : t < length s.tasks = omega (arith, count, test) in
    let is : c.params.result ≡ task_at s t = c.params.ensures.value in
    copied_more s.tasks _ _ t _ _ here c.loop-t.invariant is c.in_ok-push.ensures.items
