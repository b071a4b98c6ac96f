-- The history of `grub_book` that a recorded one tells.
use Rattle.std.specs.Prelude.{◌≡◌, ◌≢◌, List, [], ◌∷◌, Some, ⊤}
use Rattle.grub_book.specs.declared.event.Event.{Event}
use Rattle.grub_book.specs.declared.event.Event.TheVariants.{Call, Look}
use Rattle.library_book.specs.Asked.{op_of, reply_of}
use Rattle.library_book.specs.Recorded.{reading_told}
use Rattle.library_book.specs.declared.checker.TheConstants.{CALL, READING, REBASE}
use Rattle.library_book.specs.declared.asked.TheConstants.{MOVE}
use Rattle.library_book.specs.declared.asked.NdEvent.{NdEvent}

-- the numbers tell this event, whichever pass it is of
abbrev pub Tells : NdEvent → Event → Type 0
Tells x (Call pass task op reply) = (x.kind ≡ CALL) × (x.number ≡ task) × (op_of x.op ≡ Some op) × (x.reply ≡ reply_of reply)
Tells x (Look pass queue reading) = (x.kind ≡ READING) × (x.number ≡ queue) × (reading_told x ≡ reading)

-- the events, one by one
abbrev pub TellsAll : List NdEvent → List Event → Type 0
TellsAll [] [] = ⊤
TellsAll [] (e ∷ h) = ⊥
TellsAll (x ∷ xs) [] = ⊥
TellsAll (x ∷ xs) (e ∷ h) = Tells x e × TellsAll xs h

-- no event of a recorded history is a rebase, and no call asks a move
abbrev pub HasStepsAlone : List NdEvent → Type 0
HasStepsAlone [] = ⊤
HasStepsAlone (x ∷ xs) = (x.kind ≢ REBASE) × (x.kind ≡ CALL → x.op.kind ≢ MOVE) × HasStepsAlone xs
