use Rattle.std.proofs.Common.{arith, take}
use Rattle.std.proofs.lemmas.List.{length-take-le}
use Rattle.text_bytes.proofs.RoomLemmas.{front_filled, of_both}
use Rattle.text_bytes.proofs.files.read_behind.Goals as goal

pub returns-clause-gives : goal.returns-clause-gives
returns-clause-gives g c =
    of_both c.read_once.result _ _ _ (λ n fits gives. (take n c.read_once.new.room, gives, length-take-le n c.read_once.new.room fits, front_filled c.args.filled n c.args.room.now c.read_once.new.room _ (omega arith) fits)) c.read_once.ensures.fits c.read_once.ensures.gives
