use Rattle.std.proofs.Common.{ℕ, [], length, take, drop}
use Rattle.std.specs.List.{FoldsTo}
use Rattle.grub_plan.specs.Asked.{AsksLine}
use Rattle.grub_plan.specs.Limits.{ScriptFits}
use Rattle.grub_workers.specs.inside.Working.{IsAtWork, IsNotPast}
use Rattle.grub_workers.proofs.script.ask_script.Given as goal

-- the lines so far were asked, and those that are left begin no earlier than the wheel's latest moment
abbrev pub invariant-loop-line : goal.invariant-loop-line
invariant-loop-line g l =
    IsAtWork l.desk.table.now l.desk.tries l.desk.number l.pass l.progress
    × FoldsTo (AsksLine l.desk.number) [] (take l.line-index l.script) l.progress.entries.items
    × ((low : ℕ) × IsNotPast low l.progress × ScriptFits (length l.desk.table.now.terms.setup.tasks) low (drop l.line-index l.script))
