use Rattle.std.proofs.Common.{refl}
use Rattle.grub_table.proofs.StoreTurns.{give_back_allowed}
use Rattle.grub_table.proofs.shared.Shared.give_back.Goals as goal

pub store-requires-clause-allowed : goal.store-requires-clause-allowed
store-requires-clause-allowed c = give_back_allowed c.args.self.now c.args.seated c.args.t _ _ _ c.requires.held _ c.task_word_at-at.ensures.value refl c.free_word.ensures
