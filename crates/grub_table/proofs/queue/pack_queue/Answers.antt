use Rattle.std.proofs.Common.{rules}
use Rattle.grub_table.specs.Words.{queue_word}
use Rattle.grub_table.proofs.queue.pack_queue.Goals as goal

pub returns : goal.returns
unfolding queue_word
returns c = search rules
