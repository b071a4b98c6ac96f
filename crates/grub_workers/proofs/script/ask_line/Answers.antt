use Rattle.std.proofs.lemmas.Result.{IfOk-weaker}
use Rattle.grub_table.specs.declared.pass.Pass.{Pass}
use Rattle.grub_plan.specs.declared.entry.Ask.TheVariants.{Read}
use Rattle.grub_plan.specs.Asked.{AsksLine, AsksOne}
use Rattle.grub_plan.proofs.Lines.{line_read}
use Rattle.grub_workers.proofs.script.ask_line.Goals as goal

pub returns-in-None-clause-asked : goal.returns-in-None-clause-asked
returns-in-None-clause-asked g c =
    let a = c.args in let due = c.ask_due.new.progress.entries.items in let r = a.desk.now.number in
    IfOk-weaker c.look.result (λ (p : Pass). AsksOne a.line.m Read due c.look.new.progress.entries.items) (λ (p : Pass). AsksLine r a.progress.now.entries.items a.line c.look.new.progress.entries.items)
    (λ p h. line_read r a.line a.progress.now.entries.items due c.look.new.progress.entries.items c.in_ok-pass.ensures.asked c.in-None.ensures h) c.look.ensures.goes_on
