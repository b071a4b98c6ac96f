use Rattle.probe_values.specs.Shown.{enqueued_shown, keeps_new}
use Rattle.probe_tasks.specs.Enqueues.{enqueued_next, refreshed_of}
use Rattle.probe_values.proofs.Steps.{then_made}
use Rattle.probe_tasks.proofs.enqueues.enqueue_known.Goals as goal

pub returns : goal.returns
returns c = λ plain whole.
    let q = c.args.enqueue in
    let a = c.args.actor in
    then_made (λ s. enqueued_next c.args.rules s q.place q.number (keeps_new q.within a (enqueued_shown (refreshed_of a q.line q.late q.within) q.line)) q.line) _ _ _ _
    (c.in_ok-check_enqueue.ensures whole) c.in_ok-keep_shown.ensures.first (c.in_ok-keep_shown.ensures.state plain whole)
