use Rattle.grub_table.specs.Words.{server_word, ServerFits}
use Rattle.grub_table.proofs.Halves.{same_server}
use Rattle.grub_table.specs.inside.Tellings.{SawServer}
use Rattle.grub_table.proofs.Between.{value_told}
use Rattle.grub_table.proofs.ClaimTurns.{load_server_allowed}
use Rattle.grub_table.proofs.shared.Shared.load_server.Goals as goal

pub load-word-requires-clause-allowed : goal.load-word-requires-clause-allowed
load-word-requires-clause-allowed c = load_server_allowed c.args.self.now c.args.seated.now c.args.t _ _ _ c.requires.2 c.server_word_at-at.ensures.value

pub server_in-requires : goal.server_in-requires
server_in-requires c = let o = c.load-word.ensures.told.of in (o.0, o.1, o.2)

pub returns-clause-told : goal.returns-clause-told
returns-clause-told c = value_told server_word ServerFits SawServer same_server _ _ _ _ _ c.load-word.ensures.told c.server_in.ensures.fits c.server_in.ensures.word
