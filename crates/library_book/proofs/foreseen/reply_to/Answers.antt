use Rattle.std.proofs.Common.{◌≡◌, None, ◌∙◌, refl, sym, ap, subst, arith}
use Rattle.grub_book.specs.Step.{refused}
use Rattle.library_book.specs.inside.Ready.{CanStand}
use Rattle.library_book.proofs.Stepping.{record_is, stands, there, ready, stepped}
use Rattle.library_book.proofs.foreseen.reply_to.Goals as goal

pub returns-in_err-held-clause-some : goal.returns-in_err-held-clause-some
returns-in_err-held-clause-some c =
    λ s book. absurd (c.in_err-held.ensures.none refl (subst CanStand (sym (record_is s _ _ book c.args.t c.requires.task _)) (stands s _ _ book c.args.t c.requires.task)))

pub returns-then-on-queues-clause-some : goal.returns-then-on-queues-clause-some
returns-then-on-queues-clause-some c =
    λ s book.
    let held = c.in_ok-held.ensures.some.0 ∙ record_is s _ _ book c.args.t c.requires.task _ in
    let inside = there s _ _ book c.args.t c.requires.task c.args.op c.requires.fits c.in_ok-held.held held c.runqueue-on.result c.runqueue-on.ensures in
    absurd (omega (arith, inside, c.if-on-queues.true))

pub returns-in_err-queue-clause-some : goal.returns-in_err-queue-clause-some
returns-in_err-queue-clause-some c =
    λ s book.
    let held = c.in_ok-held.ensures.some.0 ∙ record_is s _ _ book c.args.t c.requires.task _ in
    absurd (c.in_err-queue.ensures.none refl (ready s _ _ book c.args.t c.requires.task c.args.op c.requires.fits c.in_ok-held.held held c.runqueue-on.result c.runqueue-on.ensures _))

pub returns-clause-reply : goal.returns-clause-reply
returns-clause-reply c =
    λ s book.
    let held = c.in_ok-held.ensures.some.0 ∙ record_is s _ _ book c.args.t c.requires.task _ in
    let free : refused c.in_ok-held.held.place c.in_ok-held.held.count c.args.op ≡ None = cc in
    ap (λ z. z.1) (stepped s _ _ book c.args.t c.requires.task c.args.op c.requires.fits c.in_ok-held.held held c.runqueue-on.result c.runqueue-on.ensures _ _ _ c.in_ok-queue.ensures.some.0 c.in_ok-queue.ensures.some.1 _ free c.settle-reply.ensures)
