use Rattle.grub_timeline.proofs.Viewing.{viewable}
use Rattle.grub_timeline.proofs.book_steps.played_steps.Goals as goal

pub steps_in-requires : goal.steps_in-requires
steps_in-requires c = viewable c.args.plan.now c.args.line.now.told.items c.args.line.now.closing.items c.requires.line c.requires.within
