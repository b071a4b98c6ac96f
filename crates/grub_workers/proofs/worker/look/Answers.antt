use Rattle.std.proofs.Common.{rules}
use Rattle.grub_plan.specs.declared.entry.Ask.TheVariants.{Read}
use Rattle.grub_plan.specs.declared.entry.Answer.TheVariants.{Seen}
use Rattle.grub_workers.specs.inside.Working.{machine}
use Rattle.grub_plan.proofs.Kept.{kept_look}
use Rattle.grub_workers.proofs.OneMoreEntry.{entered, looked}
use Rattle.grub_workers.proofs.worker.look.Goals as goal

pub returns-clause-at_work : goal.returns-clause-at_work
returns-clause-at_work g c =
    let a = c.args in let d = a.desk.now in let was = c.requires.at_work in let e = c.read-reading.ensures in
    let asked = looked d.table.now d.tries d.number a.pass c.read-reading.new.pass c.read-reading.result was.told.number e.of e.learns in record {
      told = entered d.table.now d.tries d.number a.m a.pass c.read-reading.new.pass a.progress.now.entries.items _ Read (Seen c.read-reading.result) tt was.told asked (search rules);
      kept = kept_look (machine d.table.now) a.m c.read-reading.result a.progress.now.entries.items _ a.progress.now.wheel.timers was.kept (search rules);
    }
