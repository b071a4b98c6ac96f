use Rattle.std.proofs.Common.{◌≤◌, length, arith}
use Rattle.std.proofs.lemmas.Bool.Decides.{nat_tests}
use Rattle.library_book.proofs.Beginning.{IsFlatMachine-made, capacities_of, reservations_of}
use Rattle.library_book.proofs.opening.setup_fault.Goals as goal

pub returns-then-fault-ne-DONE-clause-none : goal.returns-then-fault-ne-DONE-clause-none
returns-then-fault-ne-DONE-clause-none c =
    (λ done. absurd (c.if-fault-ne-DONE.true done), λ machine. c.fault_of_queues-fault.ensures.none.1 (capacities_of _ _ machine))

pub returns-clause-none : goal.returns-clause-none
returns-clause-none c =
    let some : 1 ≤ length c.args.queues.now = grind (arith, nat_tests) in
    (λ done. IsFlatMachine-made _ _ some (omega arith) (omega arith) (c.fault_of_queues-fault.ensures.none.0 c.if-fault-ne-DONE.false) (c.fault_of_tasks.ensures.none.0 done), λ machine. c.fault_of_tasks.ensures.none.1 (reservations_of _ _ machine))
