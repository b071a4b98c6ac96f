use Rattle.grub_book.specs.Bandwidth.{IsReservation}
use Rattle.grub_table.specs.Words.{params_word}
use Rattle.grub_table.proofs.Found.{none_from_found}
use Rattle.grub_table.proofs.Halves.{reservation, params_word-made, reservation-halves, halves_checked}
use Rattle.grub_table.proofs.params.unpack_params.Goals as goal

pub returns-clause-found : goal.returns-clause-found
returns-clause-found c =
    rw c.ok.ensures.value
    (halves_checked IsReservation params_word reservation params_word-made reservation-halves c.args.word _ _ c.halves-runtime.ensures.low c.halves-runtime.ensures.high c.new.result c.new.ensures.ok c.new.ensures.accepted)

pub returns-clause-none : goal.returns-clause-none
returns-clause-none c =
    none_from_found IsReservation params_word c.args.word _ (returns-clause-found c)
