use Rattle.library_book.specs.Memory.{machine_of}
use Rattle.library_book.proofs.Auditing.{IsBook-audited, machine_now, kept_of, sums_of}
use Rattle.library_book.proofs.Beginning.{reservations_of}
use Rattle.library_book.proofs.auditor.audit.Goals as goal

pub returns-then-opening-ne-DONE-clause-book : goal.returns-then-opening-ne-DONE-clause-book
returns-then-opening-ne-DONE-clause-book c =
    (λ done. absurd (c.if-opening-ne-DONE.true done), λ book. c.setup_fault-opening.ensures.none.1 (machine_now _ _ book.0 book.1))

pub fault_of_records-kept-requires : goal.fault_of_records-kept-requires
fault_of_records-kept-requires c = reservations_of c.args.tasks.now c.args.queues.now (c.setup_fault-opening.ensures.none.0 c.if-opening-ne-DONE.false)

pub returns-then-kept-ne-DONE-clause-book : goal.returns-then-kept-ne-DONE-clause-book
returns-then-kept-ne-DONE-clause-book c =
    (λ done. absurd (c.if-kept-ne-DONE.true done), λ book. c.fault_of_records-kept.ensures.none.1 (kept_of _ _ book.0 book.1, book.1.states))

pub returns-clause-book : goal.returns-clause-book
returns-clause-book c =
    let tasks = c.args.tasks.now in
    let queues = c.args.queues.now in (
      λ done.
          let machine = c.setup_fault-opening.ensures.none.0 c.if-opening-ne-DONE.false in
          let kept = c.fault_of_records-kept.ensures.none.0 c.if-kept-ne-DONE.false in
          (machine_of tasks queues, IsBook-audited tasks queues machine kept.0 kept.1 (c.fault_of_sums.ensures.none.0 done)),
      λ book. c.fault_of_sums.ensures.none.1 (sums_of tasks queues book.0 book.1),
    )
