use Rattle.std.proofs.Common.{◌≡◌, ◌<◌, length, arith}
use Rattle.grub_book.specs.Machine.{queue_at}
use Rattle.grub_table.proofs.Openings.{copied_more}
use Rattle.grub_table.proofs.opening.copied_queues.Goals as goal

pub loop-r-preserved : goal.loop-r-preserved
loop-r-preserved c =
    let s = c.args.setup.now in
    let r = c.loop-r.r in
    let count = c.queue_count-r-end.ensures.value in
    let test = c.loop-r-test.true in
    let here : r < length s.queues = omega (arith, count, test) in
    let is : c.queue.result ≡ queue_at s r = c.queue.ensures.value in
    record {
      limits = c.loop-r.invariant.limits;
      items = copied_more s.queues _ _ r _ _ here c.loop-r.invariant.items is c.in_ok-push.ensures.items;
    }
