use Rattle.std.proofs.Common.{◌∙◌, sym}
use Rattle.grub_book.specs.Bandwidth.{IsCapacity}
use Rattle.library_book.specs.Memory.{constants_of}
use Rattle.library_book.specs.declared.memory.NdRunqueue.{NdRunqueue}
use Rattle.library_book.specs.Opening.{queue_fault}
use Rattle.library_book.proofs.Faults.{each_more, none_more, fault_here, none_at_all}
use Rattle.library_book.proofs.opening.fault_of_queues.Goals as goal

pub loop-cell-preserved : goal.loop-cell-preserved
loop-cell-preserved c =
    record {
      none = none_more queue_fault c.args.queues.now _ _ c.loop-cell-test.true c.loop-cell.invariant.none (sym c.capacity_fault-fault.ensures.value ∙ c.if-fault-ne-DONE.false);
      each = each_more (λ k (x : NdRunqueue). IsCapacity (constants_of x)) c.args.queues.now _ _ c.loop-cell-test.true c.loop-cell.invariant.each (c.capacity_fault-fault.ensures.none.0 c.if-fault-ne-DONE.false);
    }

pub returns-then-fault-ne-DONE-clause-value : goal.returns-then-fault-ne-DONE-clause-value
returns-then-fault-ne-DONE-clause-value c =
    c.capacity_fault-fault.ensures.value ∙ fault_here queue_fault c.args.queues.now _ _ c.loop-cell-test.true c.loop-cell.invariant.none (λ zero. c.if-fault-ne-DONE.true (c.capacity_fault-fault.ensures.value ∙ zero))

pub returns-clause-value : goal.returns-clause-value
returns-clause-value c = none_at_all queue_fault c.args.queues.now _ c.loop-cell-test.false c.loop-cell.invariant.none
