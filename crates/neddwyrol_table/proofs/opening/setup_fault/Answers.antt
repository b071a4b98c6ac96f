use Rattle.std.proofs.Common.{◌≤◌, length, arith}
use Rattle.std.proofs.lemmas.Bool.Decides.{nat_tests}
use Rattle.neddwyrol_table.proofs.Machines.{IsMachine-made}
use Rattle.neddwyrol_table.proofs.opening.setup_fault.Goals as goal

pub returns-clause-none : goal.returns-clause-none
returns-clause-none c =
    let some : 1 ≤ length c.args.queues.now = grind (arith, nat_tests) in
    λ done. IsMachine-made _ _ some (omega arith) (omega arith) (c.fault_of_queues-fault.ensures.none.0 c.if-fault-ne-DONE.false) (c.fault_of_tasks.ensures.none.0 done)
