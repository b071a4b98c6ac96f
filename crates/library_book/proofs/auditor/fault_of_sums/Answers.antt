use Rattle.std.proofs.Common.{sym, ◌∙◌}
use Rattle.library_book.specs.Memory.{records_of}
use Rattle.library_book.specs.inside.Sums.{IsSum}
use Rattle.library_book.specs.declared.memory.NdRunqueue.{NdRunqueue}
use Rattle.library_book.proofs.Auditing.{no_sum_more}
use Rattle.library_book.proofs.Faults.{each_more}
use Rattle.library_book.proofs.auditor.fault_of_sums.Goals as goal

pub loop-r-preserved : goal.loop-r-preserved
loop-r-preserved c =
    let book = records_of c.args.tasks.now in
    let queues = c.args.queues.now in
    record {
      none = no_sum_more book queues _ _ c.loop-r-test.true c.loop-r.invariant.none (sym c.fault_of_sum-fault.ensures.value ∙ c.if-fault-ne-DONE.false);
      each = each_more (λ k (x : NdRunqueue). IsSum book k x) queues _ _ c.loop-r-test.true c.loop-r.invariant.each (c.fault_of_sum-fault.ensures.none.0 c.if-fault-ne-DONE.false);
    }
