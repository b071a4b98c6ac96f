use Rattle.grub_run.proofs.texts.write_outcome.Goals as goal

pub texts_of-requires-clause-most : goal.texts_of-requires-clause-most
texts_of-requires-clause-most g c = rw (c.deref.ensures.value, c.in-Ok.ensures.run.one_each) c.requires.few
