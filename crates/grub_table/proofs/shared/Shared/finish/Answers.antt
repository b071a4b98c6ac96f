use Rattle.grub_table.proofs.shared.Shared.finish.Goals as goal

pub returns-else-is_charge-clause-finished : goal.returns-else-is_charge-clause-finished
returns-else-is_charge-clause-finished c = c.finish_quiet.ensures.finished c.args.tries

pub returns-else-is_charge-clause-within : goal.returns-else-is_charge-clause-within
returns-else-is_charge-clause-within c = c.finish_quiet.ensures.within c.args.tries
