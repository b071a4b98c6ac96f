use Rattle.std.proofs.Common.{◌≡◌, ◌++◌, take}
use Rattle.std.specs.List.{flat_map}
use Rattle.grub_plan.specs.Texts.{entry_line, head_line}
use Rattle.grub_plan.proofs.text.report_of.Given as goal

abbrev pub invariant-loop-entry : goal.invariant-loop-entry
invariant-loop-entry l = l.text.items ≡ head_line l.r ++ flat_map (entry_line l.plan.names) (take l.entry-index l.report.entries.items)
