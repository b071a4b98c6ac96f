use Rattle.grub_table.proofs.StoreTurns.{give_up_allowed}
use Rattle.grub_table.proofs.shared.Shared.give_up.Goals as goal

pub store-requires-clause-allowed : goal.store-requires-clause-allowed
store-requires-clause-allowed c = give_up_allowed c.args.self.now c.args.seated c.args.t _ _ _ c.requires.1 _ c.task_word_at-at.ensures.value c.free_word.ensures
