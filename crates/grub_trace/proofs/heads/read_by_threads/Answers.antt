use Rattle.std.proofs.Common.{arith}
use Rattle.grub_trace.proofs.PlanOfHeads.{same_heads}
use Rattle.grub_trace.proofs.heads.read_by_threads.Goals as goal

pub returns-clause-heads : goal.returns-clause-heads
returns-clause-heads g c = same_heads c.args.bodies.now c.for_each_mut.new.s c.for_each_mut.auto.s (λ i d lt. let k = (c.for_each_mut.ensures i d lt).1 in grind arith)
