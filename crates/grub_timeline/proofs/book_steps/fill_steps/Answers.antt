use Rattle.std.proofs.Common.{refl, ◌∙◌, rules}
use Rattle.grub_timeline.proofs.Stepping.{next_step, past_left}
use Rattle.grub_timeline.proofs.book_steps.fill_steps.Goals as goal

pub loop-x-preserved : goal.loop-x-preserved
loop-x-preserved c =
    let inv = c.loop-x.invariant in let s = c.args.book.now.setup in let book = c.loop-x.book.records in let told = c.args.told.now in let i = c.loop-x.x-index in
    let made = rw inv.setup at c.step_after.ensures.value in
    let then = rw inv.setup at c.step_after.ensures.records in
    record {
      setup = c.step_after.ensures.setup ∙ inv.setup;
      count = rw (c.push_reserved.ensures.len, inv.count) refl;
      room = c.push_reserved.ensures.capacity ∙ inv.room;
      steps = rw c.push_reserved.ensures.items
          (next_step s book c.step_after.new.book.records told i _ c.loop-x.steps.items c.step_after.result c.loop-x-test.true (search rules) made then ∙ inv.steps);
      records = past_left s book c.step_after.new.book.records i told _ c.loop-x-test.true then ∙ inv.records;
    }
