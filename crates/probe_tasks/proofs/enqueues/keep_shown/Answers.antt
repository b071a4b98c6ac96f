use Rattle.std.proofs.Common.{◌≡◌, ap, ◌∙◌}
use Rattle.probe_run.specs.Runs.{state_of}
use Rattle.probe_values.specs.Shown.{enqueued_shown, keeps_new}
use Rattle.probe_tasks.specs.Enqueues.{enqueued_next}
use Rattle.probe_tasks.proofs.enqueues.keep_shown.Goals as goal

pub returns-clause-state : goal.returns-clause-state
returns-clause-state c = λ plain whole.
    let q = c.args.enqueue in let t = c.args.rules in
    c.in_ok-keep_enqueued.ensures.state plain whole
    ∙ ap (λ s. enqueued_next t s q.place q.number c.with_new_parameters-shown.result q.line) c.note_late.ensures
    ∙ ap (λ a. enqueued_next t (state_of c.args.run.now) q.place q.number a q.line)
    (c.with_new_parameters-shown.ensures ∙ ap (λ a. keeps_new q.within c.args.actor a) (c.shown_enqueued-seen.ensures ∙ ap (λ a. enqueued_shown a q.line) c.refreshed-known.ensures))
