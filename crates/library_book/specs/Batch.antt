-- Many ops, one after another.
use Rattle.std.specs.Prelude.{List, [], ◌∷◌, fold}
use Rattle.grub_book.specs.Machine.{Machine}
use Rattle.grub_book.specs.Sums.{Records}
use Rattle.library_book.specs.Answer.{answer}
use Rattle.library_book.specs.declared.asked.NdAsk.{NdAsk}
use Rattle.library_book.specs.declared.asked.NdReply.{NdReply}

abbrev pub answered : Machine → Records → NdAsk → Records
answered s book ask = (answer s book ask.task ask.op).0

-- the book after these asks
abbrev pub answered_all : Machine → Records → List NdAsk → Records
answered_all s book asks = fold (answered s) book asks

-- what each is answered
abbrev pub replies_to : Machine → Records → List NdAsk → List NdReply
replies_to s book [] = []
replies_to s book (ask ∷ asks) = (answer s book ask.task ask.op).1 ∷ replies_to s (answered s book ask) asks
