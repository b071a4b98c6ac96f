use Rattle.std.proofs.Common.{◌≡◌, None, get_or, ◌∙◌, refl, sym, subst}
use Rattle.grub_book.specs.Step.{refused}
use Rattle.grub_book.specs.declared.op.Op.TheVariants.{Charge}
use Rattle.library_book.specs.inside.Ready.{CanStand}
use Rattle.library_book.proofs.Stepping.{charge_puts, granted, ready, record_is, stands, stays_quiet, steps, steps_refused}
use Rattle.library_book.proofs.steps.charged.Goals as goal

pub returns-in_err-held-clause-some : goal.returns-in_err-held-clause-some
returns-in_err-held-clause-some c =
    λ s book. absurd (c.in_err-held.ensures.none refl (subst CanStand (sym (record_is s _ _ book c.args.t c.requires.task _)) (stands s _ _ book c.args.t c.requires.task)))

pub returns-in_err-queue-clause-some : goal.returns-in_err-queue-clause-some
returns-in_err-queue-clause-some c =
    λ s book.
    let held = c.in_ok-held.ensures.some.0 ∙ record_is s _ _ book c.args.t c.requires.task _ in
    absurd (c.in_err-queue.ensures.none refl (ready s _ _ book c.args.t c.requires.task (Charge c.args.r c.args.dt) c.requires.fits c.in_ok-held.held held c.args.r refl _))

pub returns-then-refuses-clause-step : goal.returns-then-refuses-clause-step
returns-then-refuses-clause-step c =
    λ s book.
    let held = c.in_ok-held.ensures.some.0 ∙ record_is s _ _ book c.args.t c.requires.task _ in
    let free : refused c.in_ok-held.held.place c.in_ok-held.held.count (Charge c.args.r c.args.dt) ≡ None = cc in
    steps_refused s _ _ book c.args.t c.requires.task (Charge c.args.r c.args.dt) c.requires.fits c.in_ok-held.held held c.args.r refl _ _ _ c.in_ok-queue.ensures.some.0 c.in_ok-queue.ensures.some.1 _ free c.settle-next.ensures (c.refuses.ensures.late c.if-refuses.true)

pub returns-clause-step : goal.returns-clause-step
returns-clause-step c =
    λ s book.
    let held = c.in_ok-held.ensures.some.0 ∙ record_is s _ _ book c.args.t c.requires.task _ in
    let free : refused c.in_ok-held.held.place c.in_ok-held.held.count (Charge c.args.r c.args.dt) ≡ None = cc in
    let put = charge_puts (get_or c.args.tasks.now c.args.t (record { runtime = 0; period = 0; budget = 0; deadline = 0; count = 0; state = 0; queue = 0 })) c.in_ok-held.held c.in_ok-queue.queue c.in_ok-queue.now c.args.r c.args.dt _ c.in_ok-held.ensures.some.0 c.settle-next.ensures in
    steps s _ _ book c.args.t c.requires.task (Charge c.args.r c.args.dt) c.requires.fits c.in_ok-held.held held c.args.r refl _ _ _ c.in_ok-queue.ensures.some.0 c.in_ok-queue.ensures.some.1 _ free c.settle-next.ensures _ put (book.states c.args.t (record { runtime = 0; period = 0; budget = 0; deadline = 0; count = 0; state = 0; queue = 0 }) c.requires.task)

pub returns-clause-book : goal.returns-clause-book
returns-clause-book c =
    λ s book.
    let held = c.in_ok-held.ensures.some.0 ∙ record_is s _ _ book c.args.t c.requires.task _ in
    let free : refused c.in_ok-held.held.place c.in_ok-held.held.count (Charge c.args.r c.args.dt) ≡ None = cc in
    let put = charge_puts (get_or c.args.tasks.now c.args.t (record { runtime = 0; period = 0; budget = 0; deadline = 0; count = 0; state = 0; queue = 0 })) c.in_ok-held.held c.in_ok-queue.queue c.in_ok-queue.now c.args.r c.args.dt _ c.in_ok-held.ensures.some.0 c.settle-next.ensures in
    stays_quiet s _ _ book c.args.t c.requires.task (Charge c.args.r c.args.dt) c.requires.fits c.in_ok-held.held held c.args.r refl _ _ _ c.in_ok-queue.ensures.some.0 c.in_ok-queue.ensures.some.1 _ free c.settle-next.ensures _ put (book.states c.args.t (record { runtime = 0; period = 0; budget = 0; deadline = 0; count = 0; state = 0; queue = 0 }) c.requires.task) refl

pub returns-clause-kept : goal.returns-clause-kept
returns-clause-kept c =
    λ late. absurd (granted c.in_ok-held.held c.in_ok-queue.queue c.in_ok-queue.now (Charge c.args.r c.args.dt) _ c.settle-next.ensures (c.refuses.ensures.all c.if-refuses.false) late)
