-- Entries that a book answers, where each is read for the runqueue that it is of.
use Rattle.std.proofs.Common.{◌≡◌, ℕ, List, [], ◌∷◌, ◌++◌, get_or, drop, refl, sym, ap, ◌∙◌, subst}
use Rattle.std.specs.Prelude.{map}
use Rattle.std.proofs.lemmas.List.Elements.{All-head, All-tail}
use mathlib.Core.List.{IsPrefix}
use Rattle.grub_book.specs.Machine.{Machine}
use Rattle.grub_book.specs.Step.{step}
use Rattle.grub_book.specs.Sums.{Records, reading_of}
use Rattle.grub_book.specs.History.{IsLegalFrom}
use Rattle.grub_book.specs.declared.event.Event.{Event}
use Rattle.grub_plan.specs.declared.entry.Ask.{Ask}
use Rattle.grub_plan.specs.declared.entry.Ask.TheVariants.{Call, Read}
use Rattle.grub_plan.specs.declared.entry.Answer.{Answer}
use Rattle.grub_plan.specs.declared.entry.Answer.TheVariants.{Replied, Seen}
use Rattle.grub_plan.specs.declared.entry.Entry.{Entry}
use Rattle.grub_plan.specs.Answers.{IsAnswered, event_told}
use Rattle.grub_plan.specs.Asked.{entry}
use Rattle.grub_timeline.specs.declared.told.ToldEntry.{ToldEntry}
use Rattle.grub_timeline.specs.TimeLines.{AreAnswered, AreOf, asker, entries_of, history_of}

-- what a book answers, read for runqueue q
abbrev pub answer_of : Machine → ℕ → Records → Ask → Answer
answer_of s q book (Call t op) = Replied (step s book t op).1
answer_of s q book Read = Seen (reading_of book q)

abbrev book_next : Machine → Records → Ask → Records
book_next s book (Call t op) = (step s book t op).0
book_next s book Read = book

-- each is answered by the book; it is read for these runqueues, and for r once they are used up
abbrev pub IsBy : Machine → ℕ → List ℕ → Records → List Entry → Type 0
IsBy s r rs book [] = Unit {0}
IsBy s r rs book (e ∷ es) = (e.answer ≡ answer_of s (get_or rs 0 r) book e.ask) × IsBy s r (drop 1 rs) (book_next s book e.ask) es

by_first : (s : Machine) (r : ℕ) (rs : List ℕ) (book : Records) (earlier rest : List Entry) → IsBy s r rs book (earlier ++ rest) → IsBy s r rs book earlier
by_first s r rs book [] rest by = tt
by_first s r rs book (e ∷ es) rest by = (by.0, by_first s r (drop 1 rs) (book_next s book e.ask) es rest by.1)

pub by_prefix : (s : Machine) (r : ℕ) (rs : List ℕ) (book : Records) (later earlier : List Entry) → IsPrefix earlier later → IsBy s r rs book later → IsBy s r rs book earlier
by_prefix s r rs book later earlier starts by = by_first s r rs book earlier starts.0 (subst (IsBy s r rs book) (sym starts.1) by)

pub by_one : (s : Machine) (r : ℕ) (rs : List ℕ) (book : Records) (m : ℕ) (ask : Ask) (before : List Entry) (a b : Answer) → IsBy s r rs book (before ++ entry m ask a ∷ []) → IsBy s r rs book (before ++ entry m ask b ∷ []) → a ≡ b
by_one s r rs book m ask [] a b f g = f.0 ∙ sym g.0
by_one s r rs book m ask (e ∷ es) a b f g = by_one s r (drop 1 rs) (book_next s book e.ask) m ask es a b f.1 g.1

-- where a reading is of runqueue p, it is p that is read
told_by : (s : Machine) (p q : ℕ) (book : Records) (ask : Ask) (answer : Answer) (rest : List Event) → IsAnswered ask answer → (ask ≡ Read → p ≡ q) → IsLegalFrom s book (event_told p ask answer ++ rest)
    → (answer ≡ answer_of s q book ask) × IsLegalFrom s (book_next s book ask) rest
told_by s p q book (Call t op) (Replied reply) rest a is legal = (ap Replied (sym legal.0.2), legal.1)
told_by s p q book Read (Seen reading) rest a is legal = (ap Seen (sym legal.0.1 ∙ ap (reading_of book) (is refl)), legal.1)
told_by s p q book ask answer rest a is legal = absurd a

-- each reading is of one of these runqueues
abbrev pub AreReadFor : ℕ → List ℕ → List ToldEntry → Type 0
AreReadFor r rs [] = Unit {0}
AreReadFor r rs (x ∷ xs) = (x.entry.ask ≡ Read → x.runqueue ≡ get_or rs 0 r) × AreReadFor r (drop 1 rs) xs

pub by_told : (s : Machine) (r : ℕ) (rs : List ℕ) (book : Records) (xs : List ToldEntry) → AreAnswered xs → IsLegalFrom s book (history_of xs) → AreReadFor r rs xs → IsBy s r rs book (entries_of xs)
by_told s r rs book [] a legal read = tt
by_told s r rs book (x ∷ xs) a legal read =
    let here = told_by s x.runqueue (get_or rs 0 r) book x.entry.ask x.entry.answer (history_of xs) (All-head (λ (k : ToldEntry). IsAnswered k.entry.ask k.entry.answer) x xs a) read.0 legal in
    (here.0, by_told s r (drop 1 rs) (book_next s book x.entry.ask) xs (All-tail (λ (k : ToldEntry). IsAnswered k.entry.ask k.entry.answer) x xs a) here.1 read.1)

-- readings of a line of runqueue r
read_of : (r : ℕ) (before more : List ToldEntry) → AreOf r before more → AreReadFor r [] more
read_of r before [] of = tt
read_of r before (x ∷ more) of = (λ is. of.0 ∙ ap (λ ask. asker r (entries_of before) ask) is, read_of r (before ++ x ∷ []) more of.1)

abbrev pub runqueues_of : List ToldEntry → List ℕ
runqueues_of xs = map (λ (x : ToldEntry). x.runqueue) xs

pub read_line : (r : ℕ) (xs before more : List ToldEntry) → AreOf r before more → AreReadFor r (runqueues_of xs) (xs ++ more)
read_line r [] before more of = read_of r before more of
read_line r (x ∷ xs) before more of = (λ is. refl, read_line r xs before more of)

-- the last of such entries is what some book answers
pub by_last : (s : Machine) (r : ℕ) (rs : List ℕ) (book : Records) (before : List Entry) (e : Entry) → IsBy s r rs book (before ++ e ∷ []) → (q : ℕ) × (b : Records) × (e.answer ≡ answer_of s q b e.ask)
by_last s r rs book [] e by = (get_or rs 0 r, book, by.0)
by_last s r rs book (x ∷ before) e by = by_last s r (drop 1 rs) (book_next s book x.ask) before e by.1
