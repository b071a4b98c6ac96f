use Rattle.library_book.proofs.Rebases.{answer_kept, answer_moved, book_moved}
use Rattle.library_book.proofs.rebasing.rebase.Goals as goal

pub returns-then-reply-eq-REBASED-clause-answer : goal.returns-then-reply-eq-REBASED-clause-answer
returns-then-reply-eq-REBASED-clause-answer c =
    λ s book.
    let is = answer_moved c.args.by c.args.tasks.now c.foreseen_rebase-reply.result (c.foreseen_rebase-reply.ensures s c.args.queues.now book) c.if-reply-eq-REBASED.true in
    rw c.rebase_all.ensures is

pub returns-then-reply-eq-REBASED-clause-book : goal.returns-then-reply-eq-REBASED-clause-book
returns-then-reply-eq-REBASED-clause-book c =
    λ s book. rw c.rebase_all.ensures (book_moved s c.args.tasks.now c.args.queues.now book c.args.by)

pub returns-else-reply-eq-REBASED-clause-answer : goal.returns-else-reply-eq-REBASED-clause-answer
returns-else-reply-eq-REBASED-clause-answer c =
    λ s book. answer_kept c.args.by c.args.tasks.now c.foreseen_rebase-reply.result (c.foreseen_rebase-reply.ensures s c.args.queues.now book) c.if-reply-eq-REBASED.false
