use Rattle.std.proofs.Common.{ap, sym, append-nil}
use Rattle.grub_book.specs.Step.{runqueue_of}
use Rattle.grub_book.specs.declared.op.Op.{Op}
use Rattle.grub_book.specs.declared.place.Record.{Record}
use Rattle.grub_table.specs.Layout.{queue_word_at}
use Rattle.grub_table.specs.declared.answer.Finished.TheVariants.{Held}
use Rattle.grub_table.proofs.Brief.{lost_more, lost_then}
use Rattle.grub_table.proofs.Tries.{lost_none, tried_more}
use Rattle.grub_table.proofs.shared.Shared.try_on.Goals as goal

pub loop-init : goal.loop-init
loop-init c = record { lost = lost_none c.args.self.now c.args.claim c.requires.of c.requires.sum; made = sym (append-nil _) }

pub loop-preserved : goal.loop-preserved
loop-preserved c =
    let i = c.loop.invariant in
    let still = i.lost.still in
    let queue = ap (λ (p : Record × Op). queue_word_at (runqueue_of p.0.place p.1)) (λ k. (still.held k, still.op k)) in record {
      lost = tried_more c.args.self.now c.args.claim c.loop.claim c.loop.counter 1 (Held c.in-Held.back) i.lost c.in-Held.ensures.finished;
      made = lost_more _ _ c.loop.counter _ _ _ queue i.made c.in-Held.ensures.within;
    }

pub returns-in-Done-clause-within : goal.returns-in-Done-clause-within
returns-in-Done-clause-within c =
    let i = c.loop.invariant in
    let still = i.lost.still in
    let queue = ap (λ (p : Record × Op). queue_word_at (runqueue_of p.0.place p.1)) (λ k. (still.held k, still.op k)) in
    lost_then _ _ c.loop.counter c.args.tries _ _ _ _ _ queue i.made c.loop-test.true c.requires.sum c.in-Done.ensures.within
