use Rattle.std.proofs.Common.{length}
use Rattle.grub_trace.proofs.ScriptLaws.{SaysOn}
use Rattle.grub_trace.proofs.body.read_lines.Given as goal

abbrev pub invariant-loop-text : goal.invariant-loop-text
invariant-loop-text l = SaysOn l.head.version l.tasks l.script.lines.items l.script.unknown l.line l.rest l.head.first l.head.below.now

abbrev pub decreases-loop-text : goal.decreases-loop-text
decreases-loop-text l = length l.rest
