use Rattle.grub_timeline.proofs.book_steps.replay.Goals as goal

pub fill_steps-requires-clause-told : goal.fill_steps-requires-clause-told
fill_steps-requires-clause-told c = rw c.in-Ok.ensures c.requires
