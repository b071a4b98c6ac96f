use Rattle.std.proofs.Common.{refl}
use Rattle.grub_run.specs.Written.{texts_from}
use Rattle.grub_run.proofs.by_threads.write_run.Goals as goal

pub write_reports-requires-clause-most : goal.write_reports-requires-clause-most
write_reports-requires-clause-most g c κs within = rw (c.deref.ensures.value, c.in-Ok.ensures.run.one_each) c.requires.few

pub returns-in-Ok-write_reports-clause-text : goal.returns-in-Ok-write_reports-clause-text
returns-in-Ok-write_reports-clause-text g c =
    let o = c.in-Ok.outcome in let e = c.in-Ok.ensures in (
      texts_from c.args.plan.now.names 0 o.reports.items o.closing.items,
      record { reports = o.reports.items; closing = o.closing.items; run = e.run; same = e.same; apart = e.apart; whole = refl },
      rw (c.deref.ensures.value, c.deref-2.ensures.value) at c.in-Ok-write_reports.ensures.whole,
    )

pub returns-clause-prefix : goal.returns-clause-prefix
returns-clause-prefix g c = λ _.
    let o = c.in-Ok.outcome in let e = c.in-Ok.ensures in (
      texts_from c.args.plan.now.names 0 o.reports.items o.closing.items,
      record { reports = o.reports.items; closing = o.closing.items; run = e.run; same = e.same; apart = e.apart; whole = refl },
      rw (c.deref.ensures.value, c.deref-2.ensures.value) at c.in-Err-write_reports.ensures.part,
    )
