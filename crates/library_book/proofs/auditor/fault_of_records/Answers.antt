use Rattle.std.proofs.Common.{◌≤◌, length, sym, ◌∙◌}
use Rattle.std.proofs.lemmas.List.{length-map}
use Rattle.grub_book.specs.Sound.{IsKept}
use Rattle.library_book.specs.Memory.{record_of, constants_of, machine_of}
use Rattle.library_book.specs.Audit.{kept_fault}
use Rattle.library_book.specs.declared.memory.NdTask.{NdTask}
use Rattle.library_book.proofs.Faults.{each_more, none_more}
use Rattle.library_book.proofs.auditor.fault_of_records.Goals as goal

pub loop-task-preserved : goal.loop-task-preserved
loop-task-preserved c =
    let tasks = c.args.tasks.now in
    let s = machine_of tasks c.args.queues.now in
    let told = c.fault_of_record-fault.ensures.none s (length-map c.args.queues.now constants_of) (c.requires _ _ c.loop-task-test.true) in
    record {
      none = none_more (kept_fault (length c.args.queues.now)) tasks _ _ c.loop-task-test.true c.loop-task.invariant.none (sym c.fault_of_record-fault.ensures.value ∙ c.if-fault-ne-DONE.false);
      each = each_more (λ k (x : NdTask). IsKept s (record_of x)) tasks _ _ c.loop-task-test.true c.loop-task.invariant.each (told.0 c.if-fault-ne-DONE.false).0;
      states = each_more (λ k (x : NdTask). x.state ≤ 4) tasks _ _ c.loop-task-test.true c.loop-task.invariant.states (told.0 c.if-fault-ne-DONE.false).1;
    }
