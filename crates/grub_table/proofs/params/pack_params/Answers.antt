use Rattle.std.proofs.Common.{rules}
use Rattle.grub_table.specs.Words.{params_word}
use Rattle.grub_table.proofs.params.pack_params.Goals as goal

pub returns : goal.returns
unfolding params_word
returns c = search rules
