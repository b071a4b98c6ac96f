use Rattle.std.proofs.Common.{arith}
use Rattle.grub_table.specs.Words.{task_word}
use Rattle.grub_table.proofs.Tasks.{bool_byte-claim_bit}
use Rattle.grub_table.proofs.task.pack_task.Goals as goal

pub returns : goal.returns
unfolding task_word
returns c = let h = bool_byte-claim_bit c.args.task.claimed in omega arith
