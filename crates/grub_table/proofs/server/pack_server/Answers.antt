use Rattle.std.proofs.Common.{rules}
use Rattle.grub_table.specs.Words.{server_word}
use Rattle.grub_table.proofs.server.pack_server.Goals as goal

pub returns : goal.returns
unfolding server_word
returns c = search rules
