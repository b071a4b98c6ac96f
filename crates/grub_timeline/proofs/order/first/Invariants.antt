use Rattle.std.specs.Prelude.{IfSome}
use Rattle.grub_timeline.specs.inside.Merge.{IsBefore, IsLeader}
use Rattle.grub_timeline.proofs.order.first.Given as goal

abbrev pub invariant-loop-r : goal.invariant-loop-r
invariant-loop-r l = record { leads : IsLeader l.plan.scripts l.done l.r l.lead; before : IfSome l.lead IsBefore }
