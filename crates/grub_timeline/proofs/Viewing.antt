-- A time line may be viewed.
use Rattle.std.proofs.Common.{ℕ, ◌<◌, length, List, [], ◌∷◌, ◌++◌}
use Rattle.std.proofs.lemmas.List.Elements.{All-head, All-tail, All-cons, All-from_recursion}
use Rattle.grub_book.specs.Machine.{Machine}
use Rattle.grub_book.specs.Sums.{Records, opening_book}
use Rattle.grub_book.specs.Step.{step}
use Rattle.grub_book.specs.History.{IsLegalFrom}
use Rattle.grub_book.specs.declared.event.Event.{Event}
use Rattle.grub_book.specs.declared.event.Reading.{Reading}
use Rattle.grub_plan.specs.declared.entry.Ask.{Ask}
use Rattle.grub_plan.specs.declared.entry.Ask.TheVariants.{Call, Read}
use Rattle.grub_plan.specs.declared.entry.Answer.{Answer}
use Rattle.grub_plan.specs.declared.entry.Answer.TheVariants.{Replied, Seen}
use Rattle.grub_plan.specs.Plans.{PlanView, IsAskOf}
use Rattle.grub_plan.specs.Answers.{IsAnswered, event_told}
use Rattle.grub_timeline.specs.TimeLines.{AreAnswered, AreWithin, IsTimeLine, history_of}
use Rattle.grub_timeline.specs.declared.told.ToldEntry.{ToldEntry}
use Rattle.grub_timeline.specs.Fitting.{AreToldIn, IsAskIn, IsToldIn}

-- an ask whose event is legal is in range, and the rest is legal from some book on
pub record Goes (s : Machine) (ask : Ask) (rest : List Event) : Type 0 where
  pub within : IsAskIn s ask
  pub book : Records
  pub legal : IsLegalFrom s book rest

goes : (s : Machine) (book : Records) (r : ℕ) (ask : Ask) (answer : Answer) (rest : List Event) → IsLegalFrom s book (event_told r ask answer ++ rest) → IsAnswered ask answer → Goes s ask rest
goes s book r (Call t op) (Replied reply) rest legal answered = record { within = (legal.0.0, legal.0.1); book = (step s book t op).0; legal = legal.1 }
goes s book r Read (Seen reading) rest legal answered = record { within = tt; book = book; legal = legal.1 }
goes s book r ask answer rest legal answered = absurd answered

pub legal_within : (s : Machine) (book : Records) (told : List ToldEntry) → IsLegalFrom s book (history_of told) → AreAnswered told → AreWithin s told → AreToldIn s told
legal_within s book [] legal answered within = All-from_recursion (IsToldIn s) [] tt
legal_within s book (x ∷ told) legal answered within =
    let AnsweredAt = λ (y : ToldEntry). IsAnswered y.entry.ask y.entry.answer in
    let WithinAt = λ (y : ToldEntry). (y.runqueue < length s.queues) × IsAskOf (length s.tasks) y.entry.ask in
    let here = goes s book x.runqueue x.entry.ask x.entry.answer (history_of told) legal (All-head AnsweredAt x told answered) in
    let there = All-head WithinAt x told within in
    All-cons (IsToldIn s) x told (record { queue = there.0; ask = here.within })
    (legal_within s here.book told here.legal (All-tail AnsweredAt x told answered) (All-tail WithinAt x told within))

pub viewable : (plan : PlanView) (told : List ToldEntry) (closing : List Reading) → IsTimeLine plan told closing → AreWithin plan.setup told → AreToldIn plan.setup told
viewable plan told closing is within = legal_within plan.setup (opening_book plan.setup) told is.legal is.answered within
