use Rattle.std.proofs.Common.{◌≡◌, None, ◌∙◌, refl, sym, subst, arith}
use Rattle.grub_book.specs.Step.{refused}
use Rattle.grub_book.specs.Totals.{Counts}
use Rattle.grub_book.specs.declared.event.Reading.{Reading}
use Rattle.library_book.specs.inside.Ready.{CanStand}
use Rattle.library_book.proofs.Stepping.{granted, record_is, stands, there, ready, counts_it, steps, stays, steps_refused}
use Rattle.library_book.proofs.steps.stepped.Goals as goal

pub returns-in_err-held-clause-some : goal.returns-in_err-held-clause-some
returns-in_err-held-clause-some c =
    λ s book. absurd (c.in_err-held.ensures.none refl (subst CanStand (sym (record_is s _ _ book c.args.t c.requires.task _)) (stands s _ _ book c.args.t c.requires.task)))

pub returns-then-on-queues-clause-some : goal.returns-then-on-queues-clause-some
returns-then-on-queues-clause-some c =
    λ s book.
    let held = c.in_ok-held.ensures.some.0 ∙ record_is s _ _ book c.args.t c.requires.task _ in
    let inside = there s _ _ book c.args.t c.requires.task c.args.op c.requires.fits c.in_ok-held.held held c.runqueue-r.result c.runqueue-r.ensures in
    absurd (omega (arith, inside, c.if-on-queues.true))

pub returns-in_err-queue-clause-some : goal.returns-in_err-queue-clause-some
returns-in_err-queue-clause-some c =
    λ s book.
    let held = c.in_ok-held.ensures.some.0 ∙ record_is s _ _ book c.args.t c.requires.task _ in
    absurd (c.in_err-queue.ensures.none refl (ready s _ _ book c.args.t c.requires.task c.args.op c.requires.fits c.in_ok-held.held held c.runqueue-r.result c.runqueue-r.ensures _))

pub returns-then-not-counts-clause-some : goal.returns-then-not-counts-clause-some
returns-then-not-counts-clause-some c =
    λ s book.
    let held = c.in_ok-held.ensures.some.0 ∙ record_is s _ _ book c.args.t c.requires.task _ in
    let counted : Counts c.in_ok-queue.now c.runqueue-r.result c.in_ok-held.held =
    subst (λ (n : Reading). Counts n c.runqueue-r.result c.in_ok-held.held) (sym c.in_ok-queue.ensures.some.1) (counts_it s _ _ book c.args.t c.requires.task c.args.op c.requires.fits c.in_ok-held.held held c.runqueue-r.result c.runqueue-r.ensures _) in
    let told = c.counts.ensures.1 counted in
    absurd cc

pub returns-then-refuses-clause-step : goal.returns-then-refuses-clause-step
returns-then-refuses-clause-step c =
    λ s book.
    let held = c.in_ok-held.ensures.some.0 ∙ record_is s _ _ book c.args.t c.requires.task _ in
    let free : refused c.in_ok-held.held.place c.in_ok-held.held.count c.args.op ≡ None = cc in
    steps_refused s _ _ book c.args.t c.requires.task c.args.op c.requires.fits c.in_ok-held.held held c.runqueue-r.result c.runqueue-r.ensures _ _ _ c.in_ok-queue.ensures.some.0 c.in_ok-queue.ensures.some.1 _ free c.settle-reply.ensures (c.refuses.ensures.late c.if-refuses.true)

pub returns-clause-step : goal.returns-clause-step
returns-clause-step c =
    λ s book.
    let held = c.in_ok-held.ensures.some.0 ∙ record_is s _ _ book c.args.t c.requires.task _ in
    let free : refused c.in_ok-held.held.place c.in_ok-held.held.count c.args.op ≡ None = cc in
    steps s _ _ book c.args.t c.requires.task c.args.op c.requires.fits c.in_ok-held.held held c.runqueue-r.result c.runqueue-r.ensures _ _ _ c.in_ok-queue.ensures.some.0 c.in_ok-queue.ensures.some.1 _ free c.settle-reply.ensures _ c.task_of.ensures.record c.task_of.ensures.state

pub returns-clause-book : goal.returns-clause-book
returns-clause-book c =
    λ s book.
    let held = c.in_ok-held.ensures.some.0 ∙ record_is s _ _ book c.args.t c.requires.task _ in
    let free : refused c.in_ok-held.held.place c.in_ok-held.held.count c.args.op ≡ None = cc in
    stays s _ _ book c.args.t c.requires.task c.args.op c.requires.fits c.in_ok-held.held held c.runqueue-r.result c.runqueue-r.ensures _ _ _ c.in_ok-queue.ensures.some.0 c.in_ok-queue.ensures.some.1 _ free c.settle-reply.ensures _ c.task_of.ensures.record c.task_of.ensures.state _ c.shifted-new.ensures _ (sym c.in_ok-queue.ensures.some.0) refl

pub returns-clause-kept : goal.returns-clause-kept
returns-clause-kept c = λ late. absurd (granted c.in_ok-held.held c.in_ok-queue.queue c.in_ok-queue.now c.args.op _ c.settle-reply.ensures (c.refuses.ensures.all c.if-refuses.false) late)
