use Rattle.std.proofs.Common.{◌≡◌, ℕ, refl, ◌+◌, ◌<◌, Bool, true, false, List, length, take, get_or}
use Rattle.grub_book.specs.Machine.{Machine}
use Rattle.grub_book.specs.declared.event.Event.{Event}
use Rattle.grub_book.specs.Sums.{Records}
use Rattle.grub_book.specs.History.{IsLegal, IsTrueOf, StopsAt, book_of}
use Rattle.grub_book.proofs.Histories.{next_legal, next_book, next_true, legal_take}
use Rattle.grub_book.proofs.checker.replay.Goals as goal

-- an event that is not true of the book ends what is legal
wrong : (s : Machine) (h : List Event) (i : ℕ) (d : Event) (book : Records) {b : Bool} → i < length h → book ≡ book_of s (take i h)
    → (b ≡ true → IsTrueOf s book (get_or h i d)) × (IsTrueOf s book (get_or h i d) → b ≡ true) → b ≡ false → IsLegal s (take (i + 1) h) → ⊥
wrong s h i d book there is answer failed legal =
    let yes = answer.1 (rw is (next_true s h i d there legal)) in cc

pub loop-i-preserved : goal.loop-i-preserved
loop-i-preserved c =
    let s = c.args.setup.now in
    let h = c.args.events.now in
    let i = c.loop-i.i in
    let was = c.loop-i.invariant in
    let yes = c.if-not-follows.false in
    let holds = rw was.book at (c.follows.ensures.answer.0 yes) in
    record {
      setup = c.follows.ensures.setup;
      legal = next_legal s h i _ c.loop-i-test.true was.legal holds;
      book = next_book s h i _ _ _ c.loop-i-test.true was.book (c.follows.ensures.after yes);
    }

pub returns-then-not-follows-clause-wrong : goal.returns-then-not-follows-clause-wrong
returns-then-not-follows-clause-wrong c =
    let s = c.args.setup.now in
    let h = c.args.events.now in
    let i = c.loop-i.i in
    let was = c.loop-i.invariant in
    let stops : StopsAt s h i = record {
      within = c.loop-i-test.true;
      before = was.legal;
      here = λ legal. wrong s h i _ c.loop-i.book.records c.loop-i-test.true was.book c.follows.ensures.answer c.if-not-follows.true legal;
    } in
    (i, refl, stops)

pub returns-then-not-follows-clause-legal : goal.returns-then-not-follows-clause-legal
returns-then-not-follows-clause-legal c =
    let s = c.args.setup.now in
    let h = c.args.events.now in
    let i = c.loop-i.i in (
      λ ok. absurd cc,
      λ legal. absurd (wrong s h i _ c.loop-i.book.records c.loop-i-test.true c.loop-i.invariant.book c.follows.ensures.answer c.if-not-follows.true (legal_take s h (i + 1) legal)),
    )
