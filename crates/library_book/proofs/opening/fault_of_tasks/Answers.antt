use Rattle.std.proofs.Common.{◌∙◌, sym}
use Rattle.grub_book.specs.Bandwidth.{IsReservation}
use Rattle.library_book.specs.Memory.{params_of}
use Rattle.library_book.specs.declared.memory.NdTask.{NdTask}
use Rattle.library_book.specs.Opening.{task_fault}
use Rattle.library_book.proofs.Faults.{each_more, none_more, fault_here, none_at_all}
use Rattle.library_book.proofs.opening.fault_of_tasks.Goals as goal

pub loop-task-preserved : goal.loop-task-preserved
loop-task-preserved c =
    record {
      none = none_more task_fault c.args.tasks.now _ _ c.loop-task-test.true c.loop-task.invariant.none (sym c.params_fault-fault.ensures.value ∙ c.if-fault-ne-DONE.false);
      each = each_more (λ k (x : NdTask). IsReservation (params_of x)) c.args.tasks.now _ _ c.loop-task-test.true c.loop-task.invariant.each (c.params_fault-fault.ensures.none.0 c.if-fault-ne-DONE.false);
    }

pub returns-then-fault-ne-DONE-clause-value : goal.returns-then-fault-ne-DONE-clause-value
returns-then-fault-ne-DONE-clause-value c =
    c.params_fault-fault.ensures.value ∙ fault_here task_fault c.args.tasks.now _ _ c.loop-task-test.true c.loop-task.invariant.none (λ zero. c.if-fault-ne-DONE.true (c.params_fault-fault.ensures.value ∙ zero))

pub returns-clause-value : goal.returns-clause-value
returns-clause-value c = none_at_all task_fault c.args.tasks.now _ c.loop-task-test.false c.loop-task.invariant.none
