-- What one line asks, and of which runqueue it is.
use Rattle.std.proofs.Common.{◌≡◌, ℕ, List, [], ◌∷◌, ◌++◌, refl, sym, ap, ◌∙◌}
use Rattle.grub_book.specs.declared.op.Op.{Op}
use Rattle.grub_plan.specs.declared.line.Act.{Act}
use Rattle.grub_plan.specs.declared.line.Act.TheVariants as acts
use Rattle.grub_plan.specs.Plans.{Line}
use Rattle.grub_plan.specs.declared.entry.Ask.TheVariants.{Call, Read}
use Rattle.grub_plan.specs.declared.entry.Answer.{Answer}
use Rattle.grub_plan.specs.declared.entry.Answer.TheVariants.{Seen}
use Rattle.grub_plan.specs.declared.entry.Entry.{Entry}
use Rattle.grub_plan.specs.Asked.{AsksDue, Follows, ask_of, entry}
use Rattle.grub_plan.proofs.Lines.{read_follows}
use Rattle.grub_timeline.specs.declared.order.PlacedLine.{PlacedLine}
use Rattle.grub_timeline.specs.declared.told.ToldEntry.{ToldEntry}
use Rattle.grub_timeline.specs.TimeLines.{AsksPlaced, asker, entries_of}
use Rattle.grub_timeline.specs.inside.TimeLines.{told_of}
use Rattle.grub_timeline.specs.inside.Playing.{GoesOnAt, GoesOnOf, IsLineAsked, IsLookedAt}
use Rattle.grub_timeline.proofs.Entries.{entries_more}
use Rattle.grub_timeline.proofs.GoesOn.{goes_on, goes_twice}

-- what a line asks is of its own runqueue
own_asker : (r m : ℕ) (act : Act ℕ ℕ) (before : List Entry) → asker r before (ask_of r m act) ≡ r
own_asker r m (acts.Join t) before = refl
own_asker r m (acts.Wake t) before = refl
own_asker r m (acts.Block t) before = refl
own_asker r m (acts.Leave t) before = refl
own_asker r m (acts.Exit t) before = refl
own_asker r m (acts.Run t dt) before = refl
own_asker r m (acts.Retune t q p) before = refl
own_asker r m acts.Read before = refl

-- a reading
pub looked : (r : ℕ) (line : Line) (old new : List ToldEntry) → ask_of r line.m line.act ≡ Read → IsLookedAt r line.m old new → IsLineAsked r line (entries_of old) (entries_of new)
looked r line old new is look = record {
  answer = Seen look.reading;
  asked = entries_of new;
  line_asked = ap entries_of look.list ∙ entries_more old (told_of r line.m Read (Seen look.reading)) ∙ ap (λ ask. entries_of old ++ entry line.m ask (Seen look.reading) ∷ []) (sym is);
  follows = read_follows r line.m line.act (Seen look.reading) (entries_of new) is;
}

pub looked_of : (r m : ℕ) (old new : List ToldEntry) → IsLookedAt r m old new → GoesOnOf r old new
looked_of r m old new look = goes_on r old new (told_of r m Read (Seen look.reading)) refl look.list

-- a call
pub called : (r : ℕ) (line : Line) (t : ℕ) (op : Op) (answer : Answer) (old asked : List ToldEntry) (new : List Entry) → ask_of r line.m line.act ≡ Call t op → asked ≡ old ++ told_of r line.m (Call t op) answer ∷ []
    → Follows r line.m line.act answer (entries_of asked) new → IsLineAsked r line (entries_of old) new
called r line t op answer old asked new is list follows = record {
  answer = answer;
  asked = entries_of asked;
  line_asked = ap entries_of list ∙ entries_more old (told_of r line.m (Call t op) answer) ∙ ap (λ ask. entries_of old ++ entry line.m ask answer ∷ []) (sym is);
  follows = follows;
}

pub called_of : (r : ℕ) (line : Line) (t : ℕ) (op : Op) (answer : Answer) (old asked : List ToldEntry) → ask_of r line.m line.act ≡ Call t op → asked ≡ old ++ told_of r line.m (Call t op) answer ∷ [] → GoesOnOf r old asked
called_of r line t op answer old asked is list =
    goes_on r old asked (told_of r line.m (Call t op) answer) (sym (own_asker r line.m line.act (entries_of old)) ∙ ap (asker r (entries_of old)) is) list

-- timers, and then the line
pub placed_asked : (p : PlacedLine) (old due new : List ToldEntry) → AsksDue p.line.m (entries_of old) (entries_of due) → GoesOnAt old due → IsLineAsked p.runqueue p.line (entries_of due) (entries_of new) → GoesOnOf p.runqueue due new → AsksPlaced old p new
placed_asked p old due new timers first line then =
    let goes = goes_twice p.runqueue old due new (first p.runqueue) then in record {
      asked = record {
        due = entries_of due;
        answer = line.answer;
        asked = line.asked;
        timers = timers;
        line_asked = line.line_asked;
        follows = line.follows;
      };
      more = goes.more;
      list = goes.list;
      runqueues = goes.runqueues;
    }
