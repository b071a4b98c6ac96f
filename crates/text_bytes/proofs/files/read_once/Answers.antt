use Rattle.std.proofs.Common.{refl, Ok, Err}
use Rattle.text_bytes.proofs.SourceLemmas.{answered}
use Rattle.text_bytes.proofs.files.read_once.Goals as goal

pub returns-in_default-clause-fails : goal.returns-in_default-clause-fails
returns-in_default-clause-fails g c = (refl, record { answer = Ok c.in-Ok.count; room = c.read.new.arg3; answers = answered _ _ _ _ _ c.in-Ok.ensures c.requires.has_room; claims = c.if-count-room.false })

pub returns-in_default-2-clause-fails : goal.returns-in_default-2-clause-fails
returns-in_default-2-clause-fails g c = (refl, record { answer = Err c.in_default.field-0; room = c.read.new.arg3; answers = answered _ _ _ _ _ (rw c.in_default.is at c.read.ensures) c.requires.has_room; claims = tt })
