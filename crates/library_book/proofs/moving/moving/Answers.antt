use Rattle.std.proofs.Common.{◌≡◌, ◌+◌, ◌<◌, ◌≤◌, lit≤, length, map, None, ◌∙◌, refl, sym, subst, arith}
use Rattle.std.proofs.lemmas.List.{length-map}
use Rattle.grub_book.specs.Totals.{Counts}
use Rattle.grub_book.specs.declared.event.Reading.{Reading}
use Rattle.grub_book.specs.declared.op.Op.TheVariants.{Join, Leave}
use Rattle.library_book.specs.Memory.{constants_of}
use Rattle.library_book.specs.Move.{refused_move}
use Rattle.library_book.specs.inside.Ready.{CanStand}
use Rattle.library_book.proofs.Stepping.{record_is, stands, there, ready, counts_it}
use Rattle.library_book.proofs.Moves.{counted, from_place, moving_granted}
use Rattle.library_book.proofs.moving.moving.Goals as goal
use Rattle.library_book.proofs.moving.moving.Goals.{then-bw-here-via-then-bw-here, then-bw-here-via-else-bw-here+then-bw-here-2}

pub returns-in_err-held-clause-some : goal.returns-in_err-held-clause-some
returns-in_err-held-clause-some c =
    λ s book. absurd (c.in_err-held.ensures.none refl (subst CanStand (sym (record_is s _ _ book c.args.t c.requires.task _)) (stands s _ _ book c.args.t c.requires.task)))

pub returns-then-from-queues-clause-some : goal.returns-then-from-queues-clause-some
returns-then-from-queues-clause-some c =
    λ s book.
    let held = c.in_ok-held.ensures.some.0 ∙ record_is s _ _ book c.args.t c.requires.task _ in
    let inside = there s _ _ book c.args.t c.requires.task Leave tt c.in_ok-held.held held c.runqueue-from.result c.runqueue-from.ensures in
    absurd (omega (arith, inside, c.if-from-queues.true))

pub returns-in_err-here-clause-some : goal.returns-in_err-here-clause-some
returns-in_err-here-clause-some c =
    λ s book.
    let held = c.in_ok-held.ensures.some.0 ∙ record_is s _ _ book c.args.t c.requires.task _ in
    absurd (c.in_err-here.ensures.none refl (ready s _ _ book c.args.t c.requires.task Leave tt c.in_ok-held.held held c.runqueue-from.result c.runqueue-from.ensures _))

pub returns-in_err-queue-clause-some : goal.returns-in_err-queue-clause-some
returns-in_err-queue-clause-some c =
    λ s book.
    let held = c.in_ok-held.ensures.some.0 ∙ record_is s _ _ book c.args.t c.requires.task _ in
    let inside : c.args.r < length (map constants_of c.args.queues.now) = omega (arith, c.requires.queue, length-map c.args.queues.now constants_of) in
    let zero : 0 ≤ 2147483647 = lit≤ tt in
    absurd (c.in_err-queue.ensures.none refl (ready s _ _ book c.args.t c.requires.task (Join c.args.r 0) (inside, zero) c.in_ok-held.held held c.args.r refl _))

pub returns-then-bw-here-clause-some : goal.returns-then-bw-here-clause-some
returns-then-bw-here-clause-some c =
    λ s book.
    let held = c.in_ok-held.ensures.some.0 ∙ record_is s _ _ book c.args.t c.requires.task _ in
    let free : refused_move c.args.r c.in_ok-held.held.place ≡ None = cc in
    let place = from_place c.args.r c.runqueue-from.result c.in_ok-held.held free c.runqueue-from.ensures in
    let counts : Counts c.in_ok-here.here c.runqueue-from.result c.in_ok-held.held =
    subst (λ (n : Reading). Counts n c.runqueue-from.result c.in_ok-held.held) (sym c.in_ok-here.ensures.some.1) (counts_it s _ _ book c.args.t c.requires.task Leave tt c.in_ok-held.held held c.runqueue-from.result c.runqueue-from.ensures _) in
    let both = counted c.in_ok-here.here c.runqueue-from.result c.in_ok-held.held place counts in
    let running = both.0 in
    let this = both.1 in
    let bw = c.bw-bw.ensures.value in
    elim c.then-bw-here.branch [
      | then-bw-here-via-then-bw-here w ↦ absurd (omega (arith, running, bw, w.if-bw-here.true))
      | then-bw-here-via-else-bw-here+then-bw-here-2 w ↦ absurd (omega (arith, this, bw, w.if-bw-here-2.true))
    ]

pub returns-clause-book : goal.returns-clause-book
returns-clause-book c =
    λ s book.
    let held = c.in_ok-held.ensures.some.0 ∙ record_is s _ _ book c.args.t c.requires.task _ in
    let free : refused_move c.args.r c.in_ok-held.held.place ≡ None = cc in
    let fits : c.in_ok-queue.there.this + c.bw-bw.result ≤ c.in_ok-queue.queue.most = omega (arith, c.if-there-bw.false, c.umax.ensures.value) in
    moving_granted s _ _ book c.args.t c.requires.task c.args.r c.requires.queue _ c.in_ok-held.held c.runqueue-from.result c.bw-bw.result c.in_ok-queue.queue c.in_ok-here.here c.in_ok-queue.there held free c.runqueue-from.ensures (omega (arith, c.if-from-queues.false))
    c.in_ok-here.ensures.some.1 c.in_ok-queue.ensures.some.0 c.in_ok-queue.ensures.some.1 c.bw-bw.ensures.value fits
