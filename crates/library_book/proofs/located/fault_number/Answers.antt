use Rattle.library_book.proofs.Beginning.{reservations_of}
use Rattle.library_book.proofs.located.fault_number.Goals as goal

pub fault_of_records-requires : goal.fault_of_records-requires
fault_of_records-requires c = reservations_of c.args.tasks.now c.args.queues.now (c.setup_fault.ensures.none.0 c.if-setup_fault-ne-DONE.false)
