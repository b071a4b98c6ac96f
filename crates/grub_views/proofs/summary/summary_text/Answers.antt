use Rattle.grub_timeline.proofs.Viewing.{viewable}
use Rattle.grub_views.proofs.summary.summary_text.Goals as goal

pub text_of-requires : goal.text_of-requires
text_of-requires c = viewable c.args.plan.now c.args.line.now.told.items c.args.line.now.closing.items c.requires.line c.requires.within
