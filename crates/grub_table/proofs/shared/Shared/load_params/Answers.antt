use Rattle.grub_book.specs.Bandwidth.{IsReservation}
use Rattle.grub_table.specs.Words.{params_word}
use Rattle.grub_table.proofs.Halves.{same_params}
use Rattle.grub_table.specs.inside.Tellings.{SawParams}
use Rattle.grub_table.proofs.Between.{value_told}
use Rattle.grub_table.proofs.ClaimTurns.{load_params_allowed}
use Rattle.grub_table.proofs.shared.Shared.load_params.Goals as goal

pub load-word-requires-clause-allowed : goal.load-word-requires-clause-allowed
load-word-requires-clause-allowed c = load_params_allowed c.args.self.now c.args.seated.now c.args.t _ _ _ c.requires.2 c.params_word_at-at.ensures.value

pub params_in-requires : goal.params_in-requires
params_in-requires c = let o = c.load-word.ensures.told.of in (o.0, o.1, o.2)

pub returns-clause-told : goal.returns-clause-told
returns-clause-told c = value_told params_word IsReservation SawParams same_params _ _ _ _ _ c.load-word.ensures.told c.params_in.ensures.fits c.params_in.ensures.word
