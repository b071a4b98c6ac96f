use Rattle.std.proofs.Common.{rules}
use Rattle.grub_plan.specs.declared.entry.Ask.TheVariants.{Call}
use Rattle.grub_workers.proofs.OneMoreEntry.{entered}
use Rattle.grub_workers.proofs.worker.put.Goals as goal

pub returns-clause-told : goal.returns-clause-told
returns-clause-told g c =
    let a = c.args in let d = a.desk.now in
    entered d.table.now d.tries d.number a.m a.pass c.ask-pass.result.0 a.progress.now.entries.items _ (Call a.t a.op) c.ask-pass.result.1 c.requires.task c.requires.told c.ask-pass.ensures.asked (search rules)
