use Rattle.std.proofs.Common.{◌∙◌}
use Rattle.grub_timeline.specs.Fitting.{IsToldIn}
use Rattle.grub_timeline.proofs.Stepping.{steps_hold}
use Rattle.grub_views.proofs.rows.fn.write_rows.write.Goals as goal

pub write_lines-requires-clause-fits : goal.write_lines-requires-clause-fits
write_lines-requires-clause-fits g c κs within =
    let s = c.captures.rows.plan.now.setup in let maker = c.captures.maker.now in
    rw (c.deref.ensures.value, c.make.ensures.steps, c.requires.setup)
    (steps_hold (IsToldIn s) s maker.book.records maker.latest.items c.requires.told)

pub returns : goal.returns
returns g c = record {
  setup = c.make.ensures.setup ∙ c.requires.setup;
  book = rw c.requires.setup at c.make.ensures.records;
  steps = c.make.ensures.room;
  latest = c.make.ensures.latest;
  whole = rw (c.deref.ensures.value, c.make.ensures.steps, c.requires.setup) at c.write_lines.ensures.whole;
  part = rw (c.deref.ensures.value, c.make.ensures.steps, c.requires.setup) at c.write_lines.ensures.part;
  room = c.write_lines.ensures.room;
}
